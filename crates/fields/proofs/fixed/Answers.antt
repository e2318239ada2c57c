-- A word that follows lies in the line, so the cursor can move past it.
use mathlib.Core.Path.{sym, ◌∙◌}
use native.Mathlib.Omega.{arith}
use lib.ListN.{drop, length-drop}
use Rattle.lists.proofs.PieceLaws.{starts_length}
use Rattle.fields.proofs.fixed.Goals as goal

pub overflow_add-result : goal.overflow_add-result
overflow_add-result c =
    let a = c.args in
    let goes_on = sym c.follows.ensures ∙ c.if-not-follows.false in
    let good = c.well_formed in
    omega (arith, good, starts_length a.w.now (drop a.at.column a.s.now) goes_on, length-drop a.at.column a.s.now)
