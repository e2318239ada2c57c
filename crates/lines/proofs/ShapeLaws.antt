-- What line 1 and a step line say lies in range: R from 1 to 99, a word of 0 to 2, a kind from 1 to 4, a value where the kind has one.
use mathlib.Core.Path.{◌≡◌, refl, ap, ◌∙◌, subst}
use mathlib.Core.Bool.{Bool, true, false, cond}
use mathlib.Core.List.{List}
use Prim.Native.Nat.{ℕ, ◌+◌, ◌*◌, ◌≤◌}
use native.Mathlib.Omega.{arith}
use Rattle.std.specs.Prelude.{Option, Some, None, Result, Ok, Err}
use lib.Dec.{eqb, leb}
use lib.ListN.{drop}
use Rattle.lists.specs.Rows.{num}
use Rattle.lists.specs.Tests.{every, within}
use Rattle.lists.proofs.TestLaws.{is_within, within_is}
use Rattle.job.specs.Limits.{max_bound}
use Rattle.job.specs.Words.{crash}
use Rattle.job.specs.declared.Kind.TheVariants.{Maybe, Critical, Assign, If}
use Rattle.job.specs.declared.Word.TheVariants.{Free, Start, Crash}
use Rattle.job.specs.declared.refusal.Fault.{Fault}
use Rattle.job.specs.declared.refusal.Fault.TheVariants.{FirstLine as FirstLineWrong}
use Rattle.lists.specs.Pieces.{starts, is}
use Rattle.fields.specs.Fields.{went, digit, range_field, start_word, crash_word}
use Rattle.lines.specs.FirstLine.{after, value_of, number_at, word_of, first_line}
use Rattle.lines.specs.FirstLine.{code_of as word_code}
use Rattle.lines.specs.StepLine.{code_of, is_if, fresh, begun, bit_of, else_line, end_line}
use Rattle.lines.specs.StepLine.{goto_line, test_line, kind_line, step_line, on, maybe_word, critical_word, if_word}
use Rattle.fields.specs.declared.Cursor.{Cursor}
use Rattle.lines.specs.declared.FirstLine.{FirstLine}
use Rattle.lines.specs.declared.Step.{Step}
use Rattle.lines.proofs.FirstLineLaws.{value_most}

-- what holds of a refusal, and of what follows a field that was read
pub after_all : {T : Type 0} (P : Result T Fault → Type 0) → ((f : Fault) → P (Err f)) → (m : Result Cursor Fault)
    (rest : Cursor → Result T Fault) → ((at : Cursor) → m ≡ Ok at → P (rest at)) → P (after m rest)
unfolding after
after_all P refused (Ok at) rest h = h at refl
after_all P refused (Err f) rest h = refused f

-- ---- line 1

abbrev Ranged : Result FirstLine Fault → Type 0
Ranged (Ok l) = (within 1 max_bound l.bound ≡ true) × (leb (word_code l.word) crash ≡ true)
Ranged (Err f) = Unit {0}

range_first : (s : List ℕ) (at to : Cursor) → range_field s at ≡ Ok to → within 49 57 (num s at.column) ≡ true
unfolding range_field
range_first s at to h = go (within 49 57 (num s at.column)) h
  where
    go : (b : Bool) → cond b (went at (cond (digit (num s (at.column + 1))) 2 1)) (Err FirstLineWrong) ≡ Ok to → b ≡ true
    go true k = refl
    go false k = cc

value_least : (b : ℕ) → within 49 57 b ≡ true → 1 ≤ value_of b
unfolding value_of
value_least b h =
    let i = is_within 49 57 b h in
    rw (within_is 48 57 b (omega arith) i.1) (omega arith)

number_ranged : (s : List ℕ) (column : ℕ) → within 49 57 (num s column) ≡ true → within 1 max_bound (number_at s column) ≡ true
unfolding number_at
number_ranged s column h = go (digit (num s (column + 1)))
  where
    go : (b : Bool) → within 1 max_bound (cond b (value_of (num s column) * 10 + value_of (num s (column + 1))) (value_of (num s column)))
        ≡ true
    go true =
        within_is 1 max_bound (value_of (num s column) * 10 + value_of (num s (column + 1)))
        (omega (arith, value_least (num s column) h))
        (omega (arith, value_most (num s column), value_most (num s (column + 1))))
    go false =
        within_is 1 max_bound (value_of (num s column))
        (omega (arith, value_least (num s column) h))
        (omega (arith, value_most (num s column)))

word_ranged : (rest : List ℕ) → leb (word_code (word_of rest)) crash ≡ true
unfolding word_of
word_ranged rest = go (is crash_word rest) (is start_word rest)
  where
    go : (a b : Bool) → leb (word_code (cond a Crash (cond b Start Free))) crash ≡ true
    go true b = refl
    go false true = refl
    go false false = refl

pub bound_ranged : (s : List ℕ) (at : Cursor) (l : FirstLine) → first_line s at ≡ Ok l
    → (within 1 max_bound l.bound ≡ true) × (leb (word_code l.word) crash ≡ true)
unfolding first_line
bound_ranged s at l e =
    subst (λ (r : Result FirstLine Fault). Ranged r) e
    (after_all Ranged (λ f. tt) _ _ λ a _. after_all Ranged (λ f. tt) _ _ λ b h. after_all Ranged (λ f. tt) _ _ λ _ _.
    (number_ranged s a.column (range_first s a b h), word_ranged (drop b.column s)))

-- ---- a step line

abbrev pub Shape : ℕ → ℕ → Type 0
Shape kind value = (within 1 4 kind ≡ true) × (cond (leb 3 kind) (leb value 1) (eqb value 0) ≡ true)

abbrev Shaped : Result Step Fault → Type 0
Shaped (Ok p) = Shape (code_of p.kind) p.value
Shaped (Err f) = Unit {0}

after_shaped : (m : Result Cursor Fault) (rest : Cursor → Result Step Fault) → ((c : Cursor) → Shaped (rest c)) → Shaped (after m rest)
after_shaped m rest h = after_all Shaped (λ f. tt) m rest (λ c _. h c)

cond_shaped : (b : Bool) (x y : Result Step Fault) → Shaped x → Shaped y → Shaped (cond b x y)
cond_shaped true x y h k = h
cond_shaped false x y h k = k

module _ (s : List ℕ) where
  goto_shaped : (at : Cursor) (p : Step) → Shape (code_of p.kind) p.value → Shaped (goto_line s at p)
  unfolding goto_line else_line end_line
  goto_shaped at p h =
      after_shaped _ _ λ l. after_shaped _ _ λ e.
      cond_shaped (is_if p.kind) _ _ (after_shaped _ _ λ o. after_shaped _ _ λ _. h) (after_shaped _ _ λ _. h)

  bit_small : (b : ℕ) → leb (bit_of b) 1 ≡ true
  unfolding bit_of
  bit_small b = go (eqb b 49)
    where
      go : (t : Bool) → leb (cond t 1 0) 1 ≡ true
      go true = refl
      go false = refl

  test_shaped : (at : Cursor) (p : Step) → within 1 4 (code_of p.kind) ≡ true → leb 3 (code_of p.kind) ≡ true → Shaped (test_line s at p)
  unfolding test_line
  test_shaped at p h k =
      after_shaped _ _ λ a. after_shaped _ _ λ b. after_shaped _ _ λ d.
      goto_shaped d _ (
        h,
        ap (λ (t : Bool). cond t (leb (bit_of (num s b.column)) 1) (eqb (bit_of (num s b.column)) 0)) k
            ∙ bit_small (num s b.column),
      )

  kind_shaped : (b : Cursor) (name : ℕ) → Shaped (kind_line s b name)
  unfolding kind_line within every
  kind_shaped b name =
      let rest = drop b.column s in
      cond_shaped (starts maybe_word rest) _ _ (goto_shaped (on b 5) (begun Maybe name) (refl, refl))
      (cond_shaped (starts critical_word rest) _ _ (goto_shaped (on b 8) (begun Critical name) (refl, refl))
      (cond_shaped (starts if_word rest) _ _ (test_shaped (on b 3) (begun If name) refl refl)
      (test_shaped b (begun Assign name) refl refl)))

  fresh_shaped : (f : Option ℕ) (l : Result Step Fault) → Shaped l → Shaped (fresh f l)
  unfolding fresh
  fresh_shaped (Some i) l h = tt
  fresh_shaped None l h = h

  pub step_shaped : (labels : List ℕ) (count : ℕ) (at : Cursor) (p : Step) → step_line labels count s at ≡ Ok p
      → Shape (code_of p.kind) p.value
  unfolding step_line
  step_shaped labels count at p e =
      subst (λ (l : Result Step Fault). Shaped l) e
      (after_shaped _ _ λ a. fresh_shaped _ _ (after_shaped _ _ λ b. kind_shaped b a.column))
