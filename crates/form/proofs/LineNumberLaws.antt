-- What is read of a program does not depend on the numbers of its lines: a step line is read alike under any number, and labels are linked
-- alike whatever lines the steps stand in.
use mathlib.Core.Path.{◌≡◌, refl, ap, ◌∙◌}
use mathlib.Core.Bool.{Bool, true, false, cond}
use mathlib.Core.List.{List}
use Prim.Native.Nat.{ℕ, zero, suc}
use Rattle.std.specs.Prelude.{Result, Ok, Err}
use lib.Dec.{leb, ltb}
use lib.ListN.{length, drop}
use Rattle.lists.specs.Rows.{num}
use Rattle.lists.specs.Tests.{within}
use Rattle.lists.specs.Pieces.{starts}
use Rattle.job.specs.Table.{first_of}
use Rattle.job.specs.Fitness.{has_other, both_critical}
use Rattle.job.specs.declared.Job.{Job}
use Rattle.job.specs.declared.Program.{Program}
use Rattle.job.specs.declared.Kind.TheVariants.{Maybe, Critical, Assign, If}
use Rattle.job.specs.declared.refusal.Fault.{Fault}
use Rattle.job.specs.declared.refusal.Fault.TheVariants.{Value}
use Rattle.job.specs.declared.refusal.Refusal.{Refusal}
use Rattle.scan.specs.Bytes.{word_at, headed}
use Rattle.scan.specs.Names.{lookup}
use Rattle.fields.specs.Fields.{went, word_field, fixed_field, bit_field, end_field}
use Rattle.fields.specs.declared.Cursor.{Cursor}
use Rattle.lines.specs.FirstLine.{after}
use Rattle.lines.specs.StepLine.{is_if, fresh, begun, tested, going, bit_of, else_line, end_line, goto_line, test_line, on}
use Rattle.lines.specs.StepLine.{kind_line, step_line}
use Rattle.lines.specs.declared.Step.{Step}
use Rattle.program.specs.declared.Draft.{Draft}
use Rattle.parse.specs.Answers.{without_lemmas, then}
use Rattle.parse.specs.Labels.{aim, with_to, with_other, entered, link_step, link, started, at_lemmas}
use Rattle.parse.proofs.AnswerLaws.{goes_on}
use Rattle.form.proofs.ResultLaws.{not_ok, taken, passed, then_told}

-- ---- fields, under another line number

abbrev pub renumbered : Cursor → ℕ → Cursor
renumbered at n = record { line = n; column = at.column }

answered : ℕ → Result Cursor Fault → Result Cursor Fault
answered n (Ok to) = Ok (renumbered to n)
answered n (Err fault) = Err fault

-- the rest of the line is read from the same column
after_steady : (n : ℕ) (m k : Result Cursor Fault) (f g : Cursor → Result Step Fault) → k ≡ answered n m
    → ((to : Cursor) → g (renumbered to n) ≡ f to) → after k g ≡ after m f
unfolding after answered
after_steady n (Ok to) k f g e h = ap (λ x. after x g) e ∙ h to
after_steady n (Err fault) k f g e h = ap (λ x. after x g) e

module _ (s : List ℕ) (at : Cursor) (n : ℕ) where
  test_steady : (b : Bool) (to : Cursor) (fault : Fault)
      → cond b (Ok (renumbered to n)) (Err fault) ≡ answered n (cond b (Ok to) (Err fault))
  unfolding answered
  test_steady true to fault = refl
  test_steady false to fault = refl

  word_steady : (stop most lo hi : ℕ) (long ill : Fault)
      → word_field stop most lo hi long ill s (renumbered at n) ≡ answered n (word_field stop most lo hi long ill s at)
  unfolding word_field answered
  word_steady stop most lo hi long ill = go (ltb most (length w))
    where
      w : List ℕ
      w = word_at stop s at.column

      read : Cursor → Result Cursor Fault
      read a = cond (headed lo hi w) (went a (length w)) (Err ill)

      go : (b : Bool) → cond b (Err long) (read (renumbered at n)) ≡ answered n (cond b (Err long) (read at))
      go true = refl
      go false = test_steady (headed lo hi w) _ ill

  fixed_steady : (w : List ℕ) (fault : Fault) → fixed_field w fault s (renumbered at n) ≡ answered n (fixed_field w fault s at)
  unfolding fixed_field
  fixed_steady w fault = test_steady (starts w (drop at.column s)) _ fault

  bit_steady : bit_field s (renumbered at n) ≡ answered n (bit_field s at)
  unfolding bit_field
  bit_steady = test_steady (within 48 49 (num s at.column)) _ Value

  end_steady : (fault : Fault) → end_field fault s (renumbered at n) ≡ answered n (end_field fault s at)
  unfolding end_field
  end_steady fault = test_steady (leb (length s) at.column) at fault

-- ---- a step line, from the right end of it to the left

module _ (s : List ℕ) (n : ℕ) where
  else_line_steady : (at : Cursor) (p : Step) → else_line s (renumbered at n) p ≡ else_line s at p
  unfolding else_line
  else_line_steady at p =
      after_steady n _ _ _ _ (fixed_steady s at n _ _) λ o.
      after_steady n _ _ _ _ (word_steady s o n _ _ _ _ _ _) λ x. refl

  end_line_steady : (at : Cursor) (p : Step) → end_line s (renumbered at n) p ≡ end_line s at p
  unfolding end_line
  end_line_steady at p = after_steady n _ _ _ _ (end_steady s at n _) λ x. refl

  goto_line_steady : (at : Cursor) (p : Step) → goto_line s (renumbered at n) p ≡ goto_line s at p
  unfolding goto_line
  goto_line_steady at p =
      after_steady n _ _ _ _ (fixed_steady s at n _ _) λ l.
      after_steady n _ _ _ _ (word_steady s l n _ _ _ _ _ _) λ e.
      let q = going p l.column e.column in
      go (is_if p.kind) (else_line_steady e q) (end_line_steady e q)
    where
      go : (b : Bool) {x y x' y' : Result Step Fault} → x' ≡ x → y' ≡ y → cond b x' y' ≡ cond b x y
      go true e f = e
      go false e f = f

  test_line_steady : (at : Cursor) (p : Step) → test_line s (renumbered at n) p ≡ test_line s at p
  unfolding test_line
  test_line_steady at p =
      after_steady n _ _ _ _ (word_steady s at n _ _ _ _ _ _) λ a.
      after_steady n _ _ _ _ (fixed_steady s a n _ _) λ b.
      after_steady n _ _ _ _ (bit_steady s b n) λ d.
      goto_line_steady d (tested p at.column a.column (bit_of (num s b.column)))

  kind_line_steady : (at : Cursor) (name : ℕ) → kind_line s (renumbered at n) name ≡ kind_line s at name
  unfolding kind_line
  kind_line_steady at name =
      rw (
        goto_line_steady (on at 5) (begun Maybe name),
        goto_line_steady (on at 8) (begun Critical name),
        test_line_steady (on at 3) (begun If name),
        test_line_steady at (begun Assign name),
      )

  pub step_steady : (labels : List ℕ) (count : ℕ) (at : Cursor) → step_line labels count s (renumbered at n) ≡ step_line labels count s at
  unfolding step_line
  step_steady labels count at =
      after_steady n _ _ _ _ (word_steady s at n _ _ _ _ _ _) λ a.
      ap (fresh (lookup labels count (word_at 32 s at.column)))
      (after_steady n _ _ _ _ (fixed_steady s a n _ _) λ b. kind_line_steady b a.column)

-- ---- the checks at `lemmas`

-- a draft with other lines
abbrev pub relined : Draft → List ℕ → Draft
relined d ns = record d { line = ns }

then_alike : {T U : Type 0} (m k : Result T Refusal) (f g : T → Result U Refusal) (x : U) → then m f ≡ Ok x
    → ((y : T) → m ≡ Ok y → k ≡ Ok y) → ((y : T) → f y ≡ Ok x → g y ≡ Ok x) → then k g ≡ Ok x
then_alike m k f g x h e s = let (y, a, b) = then_told m f x h in goes_on _ g _ (e y a) ∙ s y b

entered_alike : (with : ℕ → Program) (Q : Program) (p q : ℕ) (t : Result ℕ Fault) → entered with p t ≡ Ok Q → entered with q t ≡ Ok Q
unfolding entered
entered_alike with Q p q (Ok i) h = h
entered_alike with Q p q (Err fault) h = not_ok h

module _ (d : Draft) (ns : List ℕ) where
  step_alike : (k : ℕ) (P Q : Program) → link_step d k P ≡ Ok Q → link_step (relined d ns) k P ≡ Ok Q
  unfolding link_step aim
  step_alike k P Q h =
      then_alike _ _ _ _ Q h (λ R a. entered_alike (with_to P k) R _ _ _ a) λ R a. go (has_other (num d.program.kind k)) R a
    where
      go : (b : Bool) (R : Program) → cond b (entered (with_other R k) (num d.line k) (aim d d.other k)) (Ok R) ≡ Ok Q
          → cond b (entered (with_other R k) (num ns k) (aim d d.other k)) (Ok R) ≡ Ok Q
      go true R a = entered_alike (with_other R k) Q _ _ _ a
      go false R a = a

  link_alike : (k : ℕ) (P : Program) → link d k ≡ Ok P → link (relined d ns) k ≡ Ok P
  unfolding link
  link_alike zero P h = h
  link_alike (suc k) P h = then_alike _ _ _ _ P h (link_alike k) λ Q. step_alike k Q P

-- what the checks ask
pub record Passes (d : Draft) : Type 0 where
  pub some_a : ltb (first_of d.program 1) d.program.steps ≡ true
  pub some_b : ltb (first_of d.program 2) d.program.steps ≡ true
  pub linked : Program
  pub labelled : link d d.program.steps ≡ Ok linked
  pub startable : both_critical d.program ≡ false

-- the table at `lemmas`
abbrev pub at_start : (d : Draft) → Passes d → Job
at_start d p = without_lemmas d p.linked

pub passes_told : (d : Draft) (n : ℕ) (j : Job) → at_lemmas d n ≡ Ok j → Passes d
unfolding at_lemmas started
passes_told d n j h =
    let (a, f) = taken (ltb (first_of d.program 1) d.program.steps) _ h in
    let (b, g) = taken (ltb (first_of d.program 2) d.program.steps) _ f in
    let (P, l, k) = then_told (link d d.program.steps) _ j g in
    record { some_a = a; some_b = b; linked = P; labelled = l; startable = (passed (both_critical d.program) _ k).0 }

pub passes_are : (d : Draft) (n : ℕ) (p : Passes d) → at_lemmas d n ≡ Ok (at_start d p)
unfolding at_lemmas then started
passes_are d n p = rw (p.some_a, p.some_b, p.labelled, p.startable)

pub passes_relined : (d : Draft) (ns : List ℕ) → Passes d → Passes (relined d ns)
passes_relined d ns p = record {
  some_a = p.some_a;
  some_b = p.some_b;
  linked = p.linked;
  labelled = link_alike d ns d.program.steps p.linked p.labelled;
  startable = p.startable;
}

pub start_relined : (d : Draft) (ns : List ℕ) (p : Passes d) → at_start (relined d ns) (passes_relined d ns p) ≡ at_start d p
unfolding without_lemmas passes_relined
start_relined d ns p = refl
