-- The loop over the steps, told of its variables: those seen so far are those mentioned so far.
use Rattle.std.proofs.Common.{◌≡◌, sym, ◌∙◌, ℕ, ◌+◌, ◌<◌, true, false, eqb, max, arith, add-one}
use Rattle.lists.specs.Rows.{num}
use Rattle.lists.specs.Tests.{every}
use Rattle.lists.proofs.TestLaws.{all_of, all_fails}
use Rattle.job.specs.declared.Program.{Program}
use Rattle.job.specs.Limits.{max_steps}
use Rattle.job.specs.Fitness.{larger, mentioned, step_fits, steps_fit}

max-larger : (a b : ℕ) → max a b ≡ larger a b
unfolding larger
max-larger a b = grind arith

module _ (P : Program) where
  pub mentioned_next : (c seen : ℕ) → seen ≡ mentioned P c → max seen (num P.variable c) ≡ mentioned P (c + 1)
  unfolding mentioned
  mentioned_next c seen e = max-larger seen (num P.variable c) ∙ rw (add-one c, e)

  pub steps_stop : (c : ℕ) → c < max_steps → false ≡ step_fits P c → false ≡ steps_fit P
  unfolding steps_fit every
  steps_stop c l e = rw (all_fails (step_fits P) c max_steps l (sym e))

  pub steps_end : (seen : ℕ) → seen ≡ mentioned P max_steps → ((c : ℕ) → c < max_steps → step_fits P c ≡ true)
      → eqb P.variables seen ≡ steps_fit P
  unfolding steps_fit every
  steps_end seen e h = rw (e, all_of (step_fits P) max_steps h)
