-- A draft is fit as far as it goes: its word one of line 1, its steps in range, its variables as first mentioned, its unused places 0.
use mathlib.Core.Path.{◌≡◌, refl, sym, ap, ◌∙◌, subst}
use mathlib.Core.Bool.{Bool, true, false, cond}
use mathlib.Core.List.{List}
use Rattle.std.specs.Prelude.{Option, Some, None, Result, Ok, Err}
use Prim.Native.Nat.{ℕ, zero, suc, ◌+◌, ◌≤◌, ◌<◌}
use native.Mathlib.Omega.{arith}
use native.Mathlib.Numerals.{add-one}
use native.Mathlib.Decide.{ℕ_discrete}
use borrow.Author.Tests.{lt-ltb, le-ltb, leb-false}
use lib.Dec.{eqb, leb}
use lib.ListN.{length, length-replicate}
use lib.Seq.{slice}
use Rattle.lists.specs.Rows.{num}
use Rattle.lists.specs.Tests.{within}
use Rattle.lists.proofs.TestLaws.{within_is}
use Rattle.job.specs.Limits.{max_steps, max_bound}
use Rattle.job.specs.Words.{crash}
use Rattle.job.specs.Fitness.{larger, has_variable, mentioned}
use Rattle.job.specs.declared.Program.{Program}
use Rattle.scan.specs.Names.{lookup}
use Rattle.scan.proofs.NameLaws.{lookup_below}
use Rattle.scan.specs.Lines.{Row}
use Rattle.job.specs.declared.refusal.Fault.{Fault}
use Rattle.lines.specs.FirstLine.{code_of as word_code}
use Rattle.lines.specs.StepLine.{code_of}
use Rattle.lines.specs.declared.Step.{Step}
use Rattle.lines.proofs.ShapeLaws.{Shape, step_shaped, bound_ranged}
use Rattle.program.specs.Draft.{blank, process_of, mention_at, mention, enter, add_step}
use Rattle.program.specs.ProgramLine.{stepped, line_of, draft_of}
use Rattle.program.specs.Program.{program_of}
use Rattle.program.specs.declared.Draft.{Draft}
use Rattle.program.proofs.ProgramLineLaws.{line_all}
use Rattle.program.proofs.ReachedLaws.{Reached, reached}
use Rattle.program.proofs.PutLaws.{Put, put_set, put_none, same_at}

-- ---- one step, by its numbers: process, kind, variable, value, and how many variables were mentioned before

abbrev pub Used : ℕ → ℕ → ℕ → ℕ → ℕ → Type 0
Used p k x v seen =
    (within 1 2 p ≡ true) × (within 1 4 k ≡ true)
    × (cond (has_variable k) (within 1 (seen + 1) x) (eqb x 0) ≡ true)
    × (cond (has_variable k) (leb v 1) (eqb v 0) ≡ true)

abbrev pub StepUsed : Program → ℕ → Type 0
StepUsed P c = Used (num P.process c) (num P.kind c) (num P.variable c) (num P.value c) (mentioned P c)

abbrev pub StepUnused : Program → ℕ → Type 0
StepUnused P c = (num P.process c ≡ 0) × (num P.kind c ≡ 0) × (num P.variable c ≡ 0) × (num P.value c ≡ 0)

used_same : {p q k l x y v w s t : ℕ} → p ≡ q → k ≡ l → x ≡ y → v ≡ w → s ≡ t → Used q l y w t → Used p k x v s
used_same a b c d e h = rw (a, b, c, d, e) h

-- ---- all steps

pub record Drafted (P : Program) : Type 0 where
  pub bounded : within 1 max_bound P.bound ≡ true
  pub worded : leb P.word crash ≡ true
  pub few : P.steps ≤ max_steps
  pub process_size : length P.process ≡ max_steps
  pub kind_size : length P.kind ≡ max_steps
  pub to_size : length P.to ≡ max_steps
  pub other_size : length P.other ≡ max_steps
  pub variable_size : length P.variable ≡ max_steps
  pub value_size : length P.value ≡ max_steps
  pub used : (c : ℕ) → c < P.steps → StepUsed P c
  pub unused : (c : ℕ) → P.steps ≤ c → StepUnused P c
  pub unlinked : (c : ℕ) → (num P.to c ≡ 0) × (num P.other c ≡ 0)
  pub counted : P.variables ≡ mentioned P P.steps

pub mentioned_same : (P Q : Program) (c : ℕ) → ((i : ℕ) → i < c → num Q.variable i ≡ num P.variable i) → mentioned Q c ≡ mentioned P c
unfolding mentioned
mentioned_same P Q zero h = refl
mentioned_same P Q (suc c) h = rw (mentioned_same P Q c (λ i l. h i (omega arith)), h c (omega arith))

pub blank_drafted : (r word : ℕ) → within 1 max_bound r ≡ true → leb word crash ≡ true → Drafted (blank r word).program
unfolding blank mentioned
blank_drafted r word h k = record {
  bounded = h;
  worded = k;
  few = omega arith;
  process_size = length-replicate {0} {A = ℕ} max_steps 0;
  kind_size = length-replicate {0} {A = ℕ} max_steps 0;
  to_size = length-replicate {0} {A = ℕ} max_steps 0;
  other_size = length-replicate {0} {A = ℕ} max_steps 0;
  variable_size = length-replicate {0} {A = ℕ} max_steps 0;
  value_size = length-replicate {0} {A = ℕ} max_steps 0;
  used = λ c l. absurd (omega arith);
  unused = λ c l. (same_at max_steps c 0, same_at max_steps c 0, same_at max_steps c 0, same_at max_steps c 0);
  unlinked = λ c. (same_at max_steps c 0, same_at max_steps c 0);
  counted = refl;
}

-- ---- one step more

-- Q is P with one step more, of process p, kind k, variable x and value v
pub record More (P Q : Program) (p k x v : ℕ) : Type 0 where
  pub bound : Q.bound ≡ P.bound
  pub word : Q.word ≡ P.word
  pub steps : Q.steps ≡ P.steps + 1
  pub variables : Q.variables ≡ larger P.variables x
  pub process : Put P.process Q.process P.steps p
  pub kind : Put P.kind Q.kind P.steps k
  pub variable : Put P.variable Q.variable P.steps x
  pub value : Put P.value Q.value P.steps v
  pub to : Q.to ≡ P.to
  pub other : Q.other ≡ P.other

module _ (P Q : Program) (p k x v : ℕ) (D : Drafted P) (M : More P Q p k x v) where
  seen_before : (c : ℕ) → c ≤ P.steps → mentioned Q c ≡ mentioned P c
  seen_before c l = mentioned_same P Q c (λ i h. M.variable.2 i (λ e. omega arith))

  more_used : Used p k x v P.variables → (c : ℕ) → c < Q.steps → StepUsed Q c
  more_used u c l = go (ℕ_discrete c P.steps)
    where
      go : Dec (c ≡ P.steps) → StepUsed Q c
      go (yes e) =
          subst (λ (i : ℕ). StepUsed Q i) (sym e)
          (used_same M.process.1 M.kind.1 M.variable.1 M.value.1
          (seen_before P.steps (omega arith) ∙ sym D.counted) u)
      go (no e) =
          used_same (M.process.2 c e) (M.kind.2 c e) (M.variable.2 c e) (M.value.2 c e) (seen_before c (omega (arith, M.steps)))
          (D.used c (omega (arith, M.steps)))

  more_unused : (c : ℕ) → Q.steps ≤ c → StepUnused Q c
  more_unused c l =
      let n : c ≡ P.steps → ⊥ = λ e. omega (arith, M.steps) in
      let u = D.unused c (omega (arith, M.steps)) in
      (M.process.2 c n ∙ u.0, M.kind.2 c n ∙ u.1, M.variable.2 c n ∙ u.2, M.value.2 c n ∙ u.3)

  more_counted : Q.variables ≡ mentioned Q Q.steps
  unfolding mentioned
  more_counted =
      M.variables
      ∙ rw (D.counted, M.steps, add-one P.steps, seen_before P.steps (omega arith), M.variable.1)

  pub more_drafted : Used p k x v P.variables → P.steps < max_steps → Drafted Q
  more_drafted u l = record {
    bounded = ap (within 1 max_bound) M.bound ∙ D.bounded;
    worded = ap (λ (word : ℕ). leb word crash) M.word ∙ D.worded;
    few = omega (arith, M.steps);
    process_size = M.process.0 ∙ D.process_size;
    kind_size = M.kind.0 ∙ D.kind_size;
    to_size = ap length M.to ∙ D.to_size;
    other_size = ap length M.other ∙ D.other_size;
    variable_size = M.variable.0 ∙ D.variable_size;
    value_size = M.value.0 ∙ D.value_size;
    used = more_used u;
    unused = more_unused;
    unlinked = λ c. (ap (λ (t : List ℕ). num t c) M.to ∙ (D.unlinked c).0, ap (λ (t : List ℕ). num t c) M.other ∙ (D.unlinked c).1);
    counted = more_counted;
  }

-- ---- the step of a line

pub larger_first : (a b : ℕ) → b ≤ a → a ≡ larger a b
unfolding larger
larger_first a b h = rw (le-ltb a b h)

larger_second : (a b : ℕ) → a < b → b ≡ larger a b
unfolding larger
larger_second a b h = rw (lt-ltb a b h)

process_ranged : (b : ℕ) → within 1 2 (process_of b) ≡ true
unfolding process_of
process_ranged b = go (eqb b 65)
  where
    go : (t : Bool) → within 1 2 (cond t 1 2) ≡ true
    go true = within_is 1 2 1 (omega arith) (omega arith)
    go false = within_is 1 2 2 (omega arith) (omega arith)

module _ (d : Draft) (s : List ℕ) (p : Step) (n : ℕ) (D : Drafted d.program) (l : d.program.steps < max_steps)
    (h : Shape (code_of p.kind) p.value) where
  -- with variable number x
  used_by : (x : ℕ) → cond (has_variable (code_of p.kind)) (within 1 (d.program.variables + 1) x) (eqb x 0) ≡ true
      → Used (process_of (num s 0)) (code_of p.kind) x p.value d.program.variables
  used_by x k = (process_ranged (num s 0), h.0, k, h.1)

  abbrev Holds : Draft → Type 0
  Holds e = Drafted (enter e s p n).program

  mention_drafted : has_variable (code_of p.kind) ≡ true → (w : List ℕ) (f : Option ℕ) → lookup d.names d.program.variables w ≡ f
      → Holds (mention_at d w f)
  unfolding enter mention_at
  mention_drafted e w (Some i) g =
      let b = lookup_below d.names d.program.variables w i g in
      let P = d.program in
      let k = P.steps in
      more_drafted P _ (process_of (num s 0)) (code_of p.kind) (i + 1) p.value D
      (record {
        bound = refl;
        word = refl;
        steps = refl;
        variables = larger_first P.variables (i + 1) (omega arith);
        process = put_set P.process k _ (omega (arith, D.process_size));
        kind = put_set P.kind k _ (omega (arith, D.kind_size));
        variable = put_set P.variable k _ (omega (arith, D.variable_size));
        value = put_set P.value k _ (omega (arith, D.value_size));
        to = refl;
        other = refl;
      })
      (used_by (i + 1) (ap (λ (t : Bool). cond t (within 1 (P.variables + 1) (i + 1)) (eqb (i + 1) 0)) e
      ∙ within_is 1 (P.variables + 1) (i + 1) (omega arith) (omega arith)))
      l
  mention_drafted e w None g =
      let P = d.program in
      let k = P.steps in
      let x = P.variables + 1 in
      more_drafted P _ (process_of (num s 0)) (code_of p.kind) x p.value D
      (record {
        bound = refl;
        word = refl;
        steps = refl;
        variables = larger_second P.variables x (omega arith);
        process = put_set P.process k _ (omega (arith, D.process_size));
        kind = put_set P.kind k _ (omega (arith, D.kind_size));
        variable = put_set P.variable k _ (omega (arith, D.variable_size));
        value = put_set P.value k _ (omega (arith, D.value_size));
        to = refl;
        other = refl;
      })
      (used_by x (ap (λ (t : Bool). cond t (within 1 (P.variables + 1) x) (eqb x 0)) e
      ∙ within_is 1 (P.variables + 1) x (omega arith) (omega arith)))
      l

  plain_drafted : has_variable (code_of p.kind) ≡ false → Holds d
  unfolding enter
  plain_drafted e =
      let P = d.program in
      let k = P.steps in
      more_drafted P _ (process_of (num s 0)) (code_of p.kind) 0 p.value D
      (record {
        bound = refl;
        word = refl;
        steps = refl;
        variables = larger_first P.variables 0 (omega arith);
        process = put_set P.process k _ (omega (arith, D.process_size));
        kind = put_set P.kind k _ (omega (arith, D.kind_size));
        variable = put_none P.variable k 0 (D.unused k (omega arith)).2;
        value = put_set P.value k _ (omega (arith, D.value_size));
        to = refl;
        other = refl;
      })
      (used_by 0 (ap (λ (t : Bool). cond t (within 1 (P.variables + 1) 0) true) e))
      l

  pub step_drafted : Drafted (add_step d s p n).program
  unfolding add_step
  step_drafted = go (has_variable (code_of p.kind)) refl
    where
      go : (b : Bool) → has_variable (code_of p.kind) ≡ b → Holds (cond b (mention d (slice p.variable p.equals s)) d)
      go true e = mention_drafted e (slice p.variable p.equals s) _ refl
      go false e = plain_drafted e

-- ---- all lines

stepped_drafted : (d : Draft) (s : List ℕ) (n : ℕ) (l : Result Step Fault) → ((p : Step) → l ≡ Ok p → Shape (code_of p.kind) p.value)
    → Drafted d.program → d.program.steps < max_steps → Drafted (draft_of (stepped d s n l) d).program
unfolding stepped
stepped_drafted d s n (Ok p) h D l = step_drafted d s p n D l (h p refl)
stepped_drafted d s n (Err fault) h D l = D

pub line_drafted : (d : Draft) (l : Row) (n : ℕ) → Drafted d.program → Drafted (draft_of (line_of d l n) d).program
line_drafted d l n D =
    line_all (λ r. Drafted (draft_of r d).program) d l n (λ _. D) D D
    (λ e. stepped_drafted d l.bytes n _ (step_shaped l.bytes d.labels d.program.steps _) D (leb-false _ _ e))

-- the draft of a text that reaches `lemmas`
pub reached_drafted : (text : List ℕ) → Reached (λ d n at. Drafted d.program) (program_of text)
reached_drafted text =
    reached (λ d n at. Drafted d.program)
    (λ d l at n h. line_drafted d l (n + 1) h)
    (λ s first e n. let ranged = bound_ranged s _ first e in blank_drafted first.bound (word_code first.word) ranged.0 ranged.1)
    text
