-- A bit lies in the line, so the cursor can move past it.
use mathlib.Core.Path.{ap, sym, ◌∙◌}
use native.Mathlib.Omega.{arith}
use Rattle.lists.specs.Tests.{within}
use Rattle.fields.proofs.CursorLaws.{within_in}
use Rattle.fields.proofs.bit.Goals as goal

pub overflow_add-result : goal.overflow_add-result
overflow_add-result c =
    let a = c.args in
    let read = ap (within 48 49) (sym c.get_or-byte.ensures) ∙ sym c.within.ensures ∙ c.if-not-within.false in
    let good = c.well_formed in
    omega (arith, good, within_in 47 49 a.s.now a.at.column read)
