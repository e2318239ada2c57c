-- No number so far is true.
use Rattle.std.proofs.Common.{◌≡◌, false, ℕ, ◌<◌, get_or, pos}
use Rattle.truth.specs.Truth.{number_true}
use Rattle.truth.proofs.numbers.some_true.Given as goal

abbrev pub invariant-loop-z : goal.invariant-loop-z
invariant-loop-z l = (i : ℕ) → i < l.z-index → number_true l.values (get_or l.clause i (pos 0)) ≡ false
