-- `fit::steps::steps_fit` has passed every step below `c`, and `seen` are the variables that they mention.
use Rattle.std.proofs.Common.{◌≡◌, true, ℕ, ◌<◌}
use Rattle.job.specs.Fitness.{mentioned, step_fits}
use Rattle.fit.proofs.steps.steps_fit.Given as goal

abbrev pub invariant-loop-c : goal.invariant-loop-c
invariant-loop-c l = (l.seen ≡ mentioned l.program l.c) × ((c : ℕ) → c < l.c → step_fits l.program c ≡ true)
