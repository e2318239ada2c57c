-- 45: the table is that of a job (document 01, 'Calls and buffers', Reading). 'Names and text length are not looked at.'
use Rattle.std.specs.Prelude.{Bool, false, not, ◌&&◌, cond, List, [], ◌∷◌, ℕ, zero, suc, ◌+◌, ◌-◌, ◌*◌, ltb, leb, eqb, ℤ, pos, negsuc}
use Rattle.std.specs.Prelude.{get_or}
use Rattle.lists.specs.Rows.{num}
use Rattle.lists.specs.Tests.{every, all, within}
use Rattle.job.specs.declared.Job.{Job}
use Rattle.job.specs.declared.Program.{Program}
use Rattle.job.specs.Limits.{max_steps, max_lemmas, max_names, max_bound}
use Rattle.job.specs.Table.{first_of}
use Rattle.job.specs.Words.{crash, asks_start}

unfoldable pub larger : ℕ → ℕ → ℕ
larger a b = cond (ltb a b) b a

-- by kind: an assignment and an if have V and v, an if has M
abbrev pub has_variable : ℕ → Bool
has_variable k = leb 3 k

abbrev pub has_other : ℕ → Bool
has_other k = eqb k 4

module _ (P : Program) where
  -- ---- one step

  -- 'L and M steps of the step's own process'
  unfoldable pub is_step : ℕ → ℕ → Bool
  is_step c l = every (within 1 P.steps l ∷ eqb (num P.process (l - 1)) (num P.process c) ∷ [])

  -- M, V and v of step c are 0 where its kind has none
  unfoldable pub other_fits : ℕ → Bool
  other_fits c = cond (has_other (num P.kind c)) (is_step c (num P.other c)) (eqb (num P.other c) 0)

  -- 'variables numbered as first mentioned': of those seen before, or the next
  unfoldable pub variable_fits : ℕ → ℕ → Bool
  variable_fits seen c =
      cond (has_variable (num P.kind c)) (within 1 (seen + 1) (num P.variable c)) (eqb (num P.variable c) 0)

  unfoldable pub value_fits : ℕ → Bool
  value_fits c = cond (has_variable (num P.kind c)) (leb (num P.value c) 1) (eqb (num P.value c) 0)

  unfoldable pub used_step : ℕ → ℕ → Bool
  used_step seen c = every (
      within 1 2 (num P.process c)
      ∷ within 1 4 (num P.kind c)
      ∷ is_step c (num P.to c)
      ∷ other_fits c
      ∷ variable_fits seen c
      ∷ value_fits c
      ∷ [])

  -- 'unused places are 0'
  unfoldable pub unused_step : ℕ → Bool
  unused_step c = every (
      eqb (num P.process c) 0
      ∷ eqb (num P.kind c) 0
      ∷ eqb (num P.to c) 0
      ∷ eqb (num P.other c) 0
      ∷ eqb (num P.variable c) 0
      ∷ eqb (num P.value c) 0
      ∷ [])

  -- ---- all steps

  -- how many variables the steps below c mention
  unfoldable pub mentioned : ℕ → ℕ
  mentioned zero = 0
  mentioned (suc c) = larger (mentioned c) (num P.variable c)

  unfoldable pub step_fits : ℕ → Bool
  step_fits c = cond (ltb c P.steps) (used_step (mentioned c) c) (unused_step c)

  unfoldable pub steps_fit : Bool
  steps_fit = every (all max_steps step_fits ∷ eqb P.variables (mentioned max_steps) ∷ [])

  -- 99 and 98: a step of A, a step of B
  unfoldable pub both_start : Bool
  both_start = every (ltb (first_of P 1) P.steps ∷ ltb (first_of P 2) P.steps ∷ [])

  -- 55, 'only with a word': both first steps critical
  unfoldable pub both_critical : Bool
  both_critical = asks_start P && (eqb (num P.kind (first_of P 1)) 2 && eqb (num P.kind (first_of P 2)) 2)

  unfoldable pub program_fits : Bool
  program_fits = every (
      leb P.steps max_steps
      ∷ within 1 max_bound P.bound
      ∷ steps_fit
      ∷ both_start
      ∷ not both_critical
      ∷ leb P.word crash
      ∷ [])

-- ---- lemmas: 'each lemma 1 to 64 items of this job'

-- a signed item of w
unfoldable pub item_fits : ℕ → ℤ → Bool
item_fits w (pos x) = within 1 w x
item_fits w (negsuc x) = ltb x w

abbrev pub is_zero : ℤ → Bool
is_zero (pos x) = eqb x 0
is_zero (negsuc x) = false

-- place i of a lemma of k names
unfoldable pub place_fits : ℕ → ℕ → ℕ → ℤ → Bool
place_fits w k i z = cond (ltb i k) (item_fits w z) (is_zero z)

module _ (lengths : List ℕ) (items : List ℤ) (count w : ℕ) where
  unfoldable pub length_fits : ℕ → Bool
  length_fits k = cond (ltb k count) (within 1 max_names (num lengths k)) (eqb (num lengths k) 0)

  unfoldable pub places_fit : ℕ → Bool
  places_fit k = all max_names λ i. place_fits w (num lengths k) i (get_or items (k * max_names + i) (pos 0))

  unfoldable pub lemma_fits : ℕ → Bool
  lemma_fits k = every (length_fits k ∷ places_fit k ∷ [])

  unfoldable pub lemmas_fit : Bool
  lemmas_fit = all max_lemmas lemma_fits

-- ---- the table

unfoldable pub fit : Job → Bool
fit J = every (
    program_fits J.program
    ∷ leb J.lemmas max_lemmas
    ∷ lemmas_fit J.lengths J.items J.lemmas (J.program.steps + J.program.variables)
    ∷ [])
