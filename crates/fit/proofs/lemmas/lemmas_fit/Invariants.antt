-- `fit::lemmas::lemmas_fit` has passed every lemma below `k`.
use Rattle.std.proofs.Common.{◌≡◌, true, ℕ, ◌<◌}
use Rattle.job.specs.Fitness.{lemma_fits}
use Rattle.fit.proofs.lemmas.lemmas_fit.Given as goal

abbrev pub invariant-loop-k : goal.invariant-loop-k
invariant-loop-k l = (k : ℕ) → k < l.k → lemma_fits l.job.lengths l.job.items l.job.lemmas l.w k ≡ true
