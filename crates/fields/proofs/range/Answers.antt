-- R begins in the line, so the cursor can move past it.
use mathlib.Core.Path.{ap, sym, ◌∙◌}
use native.Mathlib.Omega.{arith}
use Rattle.lists.specs.Tests.{within}
use Rattle.fields.proofs.CursorLaws.{within_in}
use Rattle.fields.proofs.range.Goals as goal
use Rattle.fields.proofs.range.Goals.{then-is_ascii_digit, else-is_ascii_digit}

pub overflow_add-at : goal.overflow_add-at
overflow_add-at c =
    let a = c.args in
    let read = ap (within 49 57) (sym c.get_or.ensures) ∙ sym c.within.ensures ∙ c.if-not-within.false in
    let good = c.well_formed in
    omega (arith, good, within_in 48 57 a.s.now a.at.column read)

pub overflow_add-result : goal.overflow_add-result
overflow_add-result c =
    let a = c.args in
    let read = ap (within 49 57) (sym c.get_or.ensures) ∙ sym c.within.ensures ∙ c.if-not-within.false in
    let good = c.well_formed in
    let inside = within_in 48 57 a.s.now a.at.column read in
    elim c.if-is_ascii_digit.branch [
      | then-is_ascii_digit w ↦ let two = w.digits-is in omega arith
      | else-is_ascii_digit w ↦ let one = w.digits-is in omega arith
    ]
