-- A word lies in the line, so the cursor can move past it.
use mathlib.Core.Path.{ap}
use mathlib.Core.List.{List}
use Prim.Native.Nat.{ℕ}
use native.Mathlib.Omega.{arith}
use lib.ListN.{length, drop, length-drop}
use Rattle.lists.proofs.PieceLaws.{length_up_to}
use Rattle.fields.proofs.word.Goals as goal

pub overflow_add-result : goal.overflow_add-result
overflow_add-result c =
    let a = c.args in
    let long = ap (λ (w : List ℕ). length w) c.word-word.ensures in
    let good = c.well_formed in
    omega (arith, long, length_up_to a.stop (drop a.at.column a.s.now), length-drop a.at.column a.s.now, good)
