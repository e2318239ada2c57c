-- `fit::lemmas::places_fit` has passed every place below `i`.
use Rattle.std.proofs.Common.{◌≡◌, true, ℕ, ◌<◌, ◌+◌, ◌*◌, get_or, pos}
use Rattle.job.specs.Limits.{max_names}
use Rattle.job.specs.Fitness.{place_fits}
use Rattle.fit.proofs.lemmas.places_fit.Given as goal

abbrev pub invariant-loop-i : goal.invariant-loop-i
invariant-loop-i l = (i : ℕ) → i < l.i → place_fits l.w l.n i (get_or l.job.items (l.k * max_names + i) (pos 0)) ≡ true
