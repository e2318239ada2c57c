-- Each piece has a clause at least and no more than are left, so that fewer are left after it.
use Prim.Native.Nat.{◌≤◌}
use mathlib.Core.Path.{◌≡◌}
use lib.ListN.{length}
use Rattle.sat_mutex.proofs.print_pieces.Given as goal

abbrev pub invariant-loop-left : goal.invariant-loop-left
invariant-loop-left g l = (l.left ≤ l.count) × (length l.text ≡ length l.initial.text)

abbrev pub decreases-loop-left : goal.decreases-loop-left
decreases-loop-left g l = l.left
