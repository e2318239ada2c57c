-- The next piece has a clause, and no more than are left.
use Prim.Native.Nat.{◌+◌, ◌-◌, ◌≤◌, ◌<◌}
use native.Mathlib.Omega.{arith}
use lib.ListN.{length}
use Rattle.outputs.specs.Dimacs.{piece_numbers, piece_room}
use Rattle.outputs.proofs.PieceLaws.{next_some}
use Rattle.sat_mutex.proofs.print_pieces.Given.{Over}
use Rattle.sat_mutex.proofs.print_pieces.Goals as goal
use Rattle.sat_mutex.proofs.print_pieces.Goals.{After-next_piece-p}

some : (g : Over) (c : After-next_piece-p g)
    → (0 < c.next_piece-p.result.clauses) × (c.next_piece-p.result.clauses ≤ c.loop-left.left)
some g c =
    let a = c.args in
    let left = c.loop-left.left in
    let inv = c.loop-left.invariant in
    let more = c.loop-left-test.true in
    let piece = next_some a.j c.requires.0 (a.count - left + 1) (piece_room piece_numbers (length c.loop-left.text))
    (omega arith) (omega (arith, c.requires.1)) (omega (arith, c.requires.2)) in
    let counted = c.next_piece-p.ensures.clauses in
    (omega arith, omega (arith, c.requires.1))

pub overflow_sub-left : goal.overflow_sub-left
overflow_sub-left g c = omega (arith, some g (goal.at.overflow_sub-left g c).After-next_piece-p)

pub loop-left-smaller : goal.loop-left-smaller
loop-left-smaller g c = omega (arith, some g (goal.at.loop-left-smaller g c).After-next_piece-p)
