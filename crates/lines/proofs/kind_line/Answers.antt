-- A word that follows lies in the line, so the cursor can move past it.
use mathlib.Core.Path.{sym, ◌∙◌}
use native.Mathlib.Omega.{arith}
use Rattle.fields.proofs.CursorLaws.{fixed_within}
use Rattle.lines.specs.StepLine.{maybe_word, critical_word, if_word}
use Rattle.lines.proofs.kind_line.Goals as goal

pub overflow_add-behind : goal.overflow_add-behind
overflow_add-behind c =
    let a = c.args in
    let good = c.well_formed in
    omega (arith, fixed_within maybe_word a.s.now a.at.column (sym c.follows.ensures ∙ c.if-follows.true) (omega arith), good)

pub overflow_add-behind-then-follows-2 : goal.overflow_add-behind-then-follows-2
overflow_add-behind-then-follows-2 c =
    let a = c.args in
    let good = c.well_formed in
    omega (arith, fixed_within critical_word a.s.now a.at.column (sym c.follows-2.ensures ∙ c.if-follows-2.true) (omega arith), good)

pub overflow_add-behind-then-follows-3 : goal.overflow_add-behind-then-follows-3
overflow_add-behind-then-follows-3 c =
    let a = c.args in
    let good = c.well_formed in
    omega (arith, fixed_within if_word a.s.now a.at.column (sym c.follows-3.ensures ∙ c.if-follows-3.true) (omega arith), good)
