-- A program is read from its kept lines as with its comments: `reads_told`, at the end.
use mathlib.Core.Path.{◌≡◌, refl, sym, ap, ◌∙◌, subst}
use mathlib.Core.Bool.{Bool, true, false, cond}
use mathlib.Core.Logic.{◌⊎◌, inl, inr}
use mathlib.Core.List.{List, [], ◌∷◌, ◌++◌}
use Prim.Native.Nat.{ℕ, ◌+◌, ◌≤◌}
use native.Mathlib.Omega.{arith}
use borrow.Author.Tests.{eqb-true}
use Rattle.std.specs.Prelude.{Option, Some, None, Result, Ok, Err}
use lib.Dec.{eqb, leb}
use lib.ListN.{length, set}
use lib.Seq.{slice}
use Rattle.lists.proofs.Logic.{and_left}
use Rattle.order.specs.Sorting.{In}
use Rattle.order.proofs.WeightLaws.{weight}
use Rattle.job.specs.Limits.{max_steps}
use Rattle.job.specs.Fitness.{has_variable}
use Rattle.job.specs.declared.refusal.Fault.{Fault}
use Rattle.job.specs.declared.refusal.Fault.TheVariants.{ManySteps}
use Rattle.job.specs.declared.refusal.Refusal.{Refusal}
use Rattle.scan.specs.Bytes.{all_of}
use Rattle.lists.specs.Tests.{every, within}
use Rattle.scan.specs.Lines.{Row, row}
use Rattle.scan.specs.Names.{lookup}
use Rattle.fields.specs.Fields.{whole_line}
use Rattle.lines.specs.StepLine.{code_of, step_line}
use Rattle.lines.specs.declared.Step.{Step}
use Rattle.program.specs.Draft.{mention_at, mention, enter, add_step}
use Rattle.program.specs.ProgramLine.{is_lemmas, is_comment, stepped, program_line, whole, line_of}
use Rattle.program.specs.Program.{reached, follow, program}
use Rattle.program.specs.declared.Draft.{Draft}
use Rattle.program.specs.declared.ProgramPart.{ProgramPart}
use Rattle.form.specs.Form.{kept, lemmas_word}
use Rattle.form.proofs.ResultLaws.{not_ok}
use Rattle.form.proofs.WrittenLaws.{long, whole_told, whole_is}
use Rattle.form.proofs.LineNumberLaws.{relined, step_steady}
use Rattle.form.proofs.KeptLaws.{joined, is_lemmas_lem, kept_lemmas, kept_comment, kept_line}

-- ---- one program line

-- a line that is whole is whole with its LF
pub whole_ended : (l : Row) → whole_line l ≡ Ok tt → whole_line (row l.bytes true) ≡ Ok tt
whole_ended l e = let w = whole_told l e in whole_is l.bytes w.short w.bytes

-- the step that a line says
abbrev step_of : Draft → List ℕ → ℕ → Result Step Fault
step_of d s n = step_line d.labels d.program.steps s (record { line = n; column = 0 })

-- line n is a step line, and there is room for its step
record Stepping (d : Draft) (l : Row) (n : ℕ) (p : Step) : Type 0 where
  no_lemmas : is_lemmas l.bytes ≡ false
  no_comment : is_comment l.bytes ≡ false
  room : leb max_steps d.program.steps ≡ false
  says : step_of d l.bytes n ≡ Ok p

-- bound and word are the same
abbrev pub Line1 : Draft → Draft → Type 0
Line1 d e = (d.program.bound ≡ e.program.bound) × (d.program.word ≡ e.program.word)

module _ (d : Draft) (s : List ℕ) (p : Step) (n : ℕ) where
  abbrev variable_of : List ℕ
  variable_of = slice p.variable p.equals s

  -- the step is added alike to a draft with other lines
  added_relined : (ns : List ℕ) (m : ℕ) → add_step (relined d ns) s p m ≡ relined (add_step d s p n) (set ns d.program.steps m)
  unfolding add_step enter mention_at
  added_relined ns m = go (has_variable (code_of p.kind))
    where
      mentioned : (f : Option ℕ)
          → enter (mention_at (relined d ns) variable_of f) s p m ≡ relined (enter (mention_at d variable_of f) s p n)
          (set ns d.program.steps m)
      mentioned (Some i) = refl
      mentioned None = refl

      go : (b : Bool) → enter (cond b (mention (relined d ns) variable_of) (relined d ns)) s p m
          ≡ relined (enter (cond b (mention d variable_of) d) s p n) (set ns d.program.steps m)
      go true = mentioned (lookup d.names d.program.variables variable_of)
      go false = refl

  -- and leaves what line 1 said
  added_line1 : Line1 (add_step d s p n) d
  unfolding add_step enter mention_at
  added_line1 = go (has_variable (code_of p.kind))
    where
      mentioned : (f : Option ℕ) → Line1 (mention_at d variable_of f) d
      mentioned (Some i) = (refl, refl)
      mentioned None = (refl, refl)

      go : (b : Bool) → Line1 (cond b (mention d variable_of) d) d
      go true = mentioned (lookup d.names d.program.variables variable_of)
      go false = (refl, refl)

module _ (d : Draft) (at n : ℕ) (l : Row) (ls : List Row) (w : whole_line l ≡ Ok tt) where
  abbrev next : ℕ
  next = at + long l.bytes

  -- what is read of the line, and of those behind it
  program_line_lem : (r : Result (Option Draft) Fault) → program_line d l.bytes (n + 1) ≡ r
      → program d at n (l ∷ ls) ≡ follow r d (n + 1) next λ e. program e next (n + 1) ls
  unfolding program whole
  program_line_lem r h =
      let behind : at + length l.bytes + 1 ≡ next = omega arith in
      rw (w, h) (ap (λ k. follow r d (n + 1) k λ e. program e k (n + 1) ls) behind)

  program_lemmas : is_lemmas l.bytes ≡ true → program d at n (l ∷ ls) ≡ Ok (reached (n + 1) next d)
  unfolding follow program_line
  program_lemmas a = program_line_lem (Ok None) (rw a refl)

  program_comment : is_lemmas l.bytes ≡ false → is_comment l.bytes ≡ true → program d at n (l ∷ ls) ≡ program d next (n + 1) ls
  unfolding follow program_line
  program_comment a b = program_line_lem (Ok (Some d)) (rw (a, b) refl)

  program_step : (p : Step) → Stepping d l (n + 1) p → program d at n (l ∷ ls) ≡ program (add_step d l.bytes p (n + 1)) next (n + 1) ls
  unfolding follow program_line stepped
  program_step p s =
      program_line_lem (Ok (Some (add_step d l.bytes p (n + 1)))) (rw (s.no_lemmas, s.no_comment, s.room, s.says) refl)

-- ---- which lines do not end the reading

data Way (d : Draft) (l : Row) (n : ℕ) : Type 0 where
  lemmas : is_lemmas l.bytes ≡ true → Way d l n
  comment : is_lemmas l.bytes ≡ false → is_comment l.bytes ≡ true → Way d l n
  step : (p : Step) → Stepping d l n p → Way d l n

module _ (d : Draft) (l : Row) (n at : ℕ) (more : Draft → Result ProgramPart Refusal) (to : ProgramPart) where
  way_told : follow (line_of d l n) d n at more ≡ Ok to → (whole_line l ≡ Ok tt) × Way d l n
  unfolding whole program_line stepped follow
  way_told h =
      go (whole_line l) refl (is_lemmas s) refl (is_comment s) refl (leb max_steps d.program.steps) refl (step_of d s n) refl h
    where
      s : List ℕ
      s = l.bytes

      line_by : Bool → Bool → Bool → Result Step Fault → Result (Option Draft) Fault
      line_by a b c x = cond a (Ok None) (cond b (Ok (Some d)) (cond c (Err ManySteps) (stepped d s n x)))

      go : (f : Result (Unit {0}) Fault) → whole_line l ≡ f → (a : Bool) → is_lemmas s ≡ a → (b : Bool) → is_comment s ≡ b
          → (c : Bool) → leb max_steps d.program.steps ≡ c → (x : Result Step Fault) → step_of d s n ≡ x
          → follow (whole f (line_by a b c x)) d n at more ≡ Ok to → (whole_line l ≡ Ok tt) × Way d l n
      go (Err fault) w a p b q c r x e h = not_ok h
      go (Ok u) w true p b q c r x e h = (w, lemmas p)
      go (Ok u) w false p true q c r x e h = (w, comment p q)
      go (Ok u) w false p false q true r x e h = not_ok h
      go (Ok u) w false p false q false r (Ok y) e h = (w, step y (record { no_lemmas = p; no_comment = q; room = r; says = e }))
      go (Ok u) w false p false q false r (Err fault) e h = not_ok h

-- ---- all lines

-- the bytes of lines, each with its LF
abbrev pub rows_long : List Row → ℕ
rows_long = weight (λ (l : Row). long l.bytes)

-- from place at, behind line m, kept lines and `lemmas` lead d to the draft start, whatever lines its steps stand in
abbrev pub Leads : Draft → ℕ → ℕ → List (List ℕ) → List Row → Draft → Type 0
Leads d at m ks tail start =
    (k : ℕ) × (ms : List ℕ) × (program d at m (joined ks tail) ≡ Ok (reached k (at + weight long ks + long lemmas_word) (relined start ms)))

pub record Reads (d : Draft) (n : ℕ) (ls : List Row) : Type 0 where
  -- the lines up to `lemmas`, and the lemma lines
  pub front : List Row
  pub rest : List Row
  pub parts : ls ≡ front ++ rest
  pub wholes : (l : Row) → In l front → whole_line l ≡ Ok tt
  -- the draft at `lemmas`
  pub start : Draft
  pub line : ℕ
  pub line1 : Line1 start d
  pub reads : (at : ℕ) → program d at n ls ≡ Ok (reached line (at + rows_long front) start)
  pub shorter : weight long (kept ls) + long lemmas_word ≤ rows_long front
  -- the kept lines lead to the same draft, under any line numbers and before any lemma lines
  pub again : (ns : List ℕ) (at m : ℕ) (tail : List Row) → Leads (relined d ns) at m (kept ls) tail start

lemmas_length : (s : List ℕ) → is_lemmas s ≡ true → length s ≡ 6
unfolding is_lemmas
lemmas_length s e = eqb-true (length s) 6 (and_left (eqb (length s) 6) _ e)

pub lemmas_whole : whole_line (row lemmas_word true) ≡ Ok tt
unfolding whole_line all_of within every
lemmas_whole = refl

-- one line more in front
module _ (d : Draft) (n : ℕ) (l : Row) (ls : List Row) (w : whole_line l ≡ Ok tt) where
  either : (rs : List Row) → ((k : Row) → In k rs → whole_line k ≡ Ok tt) → (k : Row) → (k ≡ l) ⊎ In k rs → whole_line k ≡ Ok tt
  either rs f k (inl e) = ap whole_line e ∙ w
  either rs f k (inr i) = f k i

  reads_lemmas : is_lemmas l.bytes ≡ true → Reads d n (l ∷ ls)
  unfolding weight
  reads_lemmas a = record {
    front = l ∷ [];
    rest = ls;
    parts = refl;
    wholes = either [] (λ k i. absurd i);
    start = d;
    line = n + 1;
    line1 = (refl, refl);
    reads = here;
    shorter = rw (kept_lemmas l ls a) (omega (arith, lemmas_length l.bytes a));
    again = λ ns at m tail. subst (λ ks. Leads (relined d ns) at m ks tail d) (sym (kept_lemmas l ls a)) (m + 1, ns, ended ns at m tail);
  }
    where
      here : (at : ℕ) → program d at n (l ∷ ls) ≡ Ok (reached (n + 1) (at + (long l.bytes + 0)) d)
      here at =
          let place : at + long l.bytes ≡ at + (long l.bytes + 0) = omega arith in
          program_lemmas d at n l ls w a ∙ ap (λ k. Ok (reached (n + 1) k d)) place

      ended : (ns : List ℕ) (at m : ℕ) (tail : List Row)
          → program (relined d ns) at m (joined [] tail) ≡ Ok (reached (m + 1) (at + 0 + long lemmas_word) (relined d ns))
      ended ns at m tail =
          let place : at + long lemmas_word ≡ at + 0 + long lemmas_word = omega arith in
          program_lemmas (relined d ns) at m (row lemmas_word true) tail lemmas_whole is_lemmas_lem
          ∙ ap (λ k. Ok (reached (m + 1) k (relined d ns))) place

  -- the lines behind it are read
  onward : (e : Draft) (r : Reads e (n + 1) ls) → ((at : ℕ) → program d at n (l ∷ ls) ≡ program e (at + long l.bytes) (n + 1) ls)
      → (at : ℕ) → program d at n (l ∷ ls) ≡ Ok (reached r.line (at + (long l.bytes + rows_long r.front)) r.start)
  onward e r f at =
      let place : at + long l.bytes + rows_long r.front ≡ at + (long l.bytes + rows_long r.front) = omega arith in
      f at ∙ r.reads (at + long l.bytes) ∙ ap (λ k. Ok (reached r.line k r.start)) place

  reads_comment : is_lemmas l.bytes ≡ false → is_comment l.bytes ≡ true → Reads d (n + 1) ls → Reads d n (l ∷ ls)
  unfolding weight
  reads_comment a b r = record {
    front = l ∷ r.front;
    rest = r.rest;
    parts = ap (λ x. l ∷ x) r.parts;
    wholes = either r.front r.wholes;
    start = r.start;
    line = r.line;
    line1 = r.line1;
    reads = onward d r (λ at. program_comment d at n l ls w a b);
    shorter = rw (kept_comment l ls a b) (omega (arith, r.shorter));
    again = λ ns at m tail. subst (λ ks. Leads (relined d ns) at m ks tail r.start) (sym (kept_comment l ls a b)) (r.again ns at m tail);
  }

  reads_step : (p : Step) → Stepping d l (n + 1) p → Reads (add_step d l.bytes p (n + 1)) (n + 1) ls → Reads d n (l ∷ ls)
  unfolding weight
  reads_step p s r = record {
    front = l ∷ r.front;
    rest = r.rest;
    parts = ap (λ x. l ∷ x) r.parts;
    wholes = either r.front r.wholes;
    start = r.start;
    line = r.line;
    line1 = let (b, k) = added_line1 d l.bytes p (n + 1) in (r.line1.0 ∙ b, r.line1.1 ∙ k);
    reads = onward added r (λ at. program_step d at n l ls w p s);
    shorter = rw (kept_line l ls s.no_lemmas s.no_comment) (omega (arith, r.shorter));
    again = λ ns at m tail.
        subst (λ ks. Leads (relined d ns) at m ks tail r.start) (sym (kept_line l ls s.no_lemmas s.no_comment))
        (again ns at m tail (r.again (set ns d.program.steps (m + 1)) (at + long l.bytes) (m + 1) tail));
  }
    where
      added : Draft
      added = add_step d l.bytes p (n + 1)

      -- under another number it says the same step
      same : (ns : List ℕ) (m : ℕ) → Stepping (relined d ns) (row l.bytes true) m p
      same ns m = record {
        no_lemmas = s.no_lemmas;
        no_comment = s.no_comment;
        room = s.room;
        says = step_steady l.bytes m d.labels d.program.steps (record { line = n + 1; column = 0 }) ∙ s.says;
      }

      again : (ns : List ℕ) (at m : ℕ) (tail : List Row)
          → Leads (relined added (set ns d.program.steps (m + 1))) (at + long l.bytes) (m + 1) (kept ls) tail r.start
          → Leads (relined d ns) at m (l.bytes ∷ kept ls) tail r.start
      again ns at m tail (k, ms, q) =
          let there = at + long l.bytes in
          let place : there + weight long (kept ls) + long lemmas_word ≡ at + (long l.bytes + weight long (kept ls)) + long lemmas_word =
          omega arith in (
            k,
            ms,
            program_step (relined d ns) at m (row l.bytes true) (joined (kept ls) tail) (whole_ended l w) p (same ns (m + 1))
                ∙ ap (λ e. program e there (m + 1) (joined (kept ls) tail)) (added_relined d l.bytes p (n + 1) ns (m + 1))
                ∙ q
                ∙ ap (λ j. Ok (reached k j (relined r.start ms))) place,
          )

-- a program that comes to `lemmas`
pub reads_told : (d : Draft) (at n : ℕ) (ls : List Row) (to : ProgramPart) → program d at n ls ≡ Ok to → Reads d n ls
unfolding program
reads_told d at n [] to h = not_ok h
reads_told d at n (l ∷ ls) to h =
    let next = at + length l.bytes + 1 in
    let (w, way) = way_told d l (n + 1) next (λ e. program e next (n + 1) ls) to h in
    go w way (λ e g. reads_told e (at + long l.bytes) (n + 1) ls to g)
  where
    go : whole_line l ≡ Ok tt → Way d l (n + 1)
        → ((e : Draft) → program e (at + long l.bytes) (n + 1) ls ≡ Ok to → Reads e (n + 1) ls) → Reads d n (l ∷ ls)
    go w (lemmas a) f = reads_lemmas d n l ls w a
    go w (comment a b) f = reads_comment d n l ls w a b (f d (sym (program_comment d at n l ls w a b) ∙ h))
    go w (step p s) f = reads_step d n l ls w p s (f (add_step d l.bytes p (n + 1)) (sym (program_step d at n l ls w p s) ∙ h))
