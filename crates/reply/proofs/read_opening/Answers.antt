-- The line is told by its kind, and the lines behind it are what the reader has left.
use Rattle.std.proofs.Common.{sym, ◌∙◌}
use Rattle.reply.proofs.LineLaws.{open_last, open_line, open_other}
use Rattle.reply.proofs.read_opening.Goals as goal

pub returns-then-not-line : goal.returns-then-not-line
returns-then-not-line c =
    let e = c.next_line-line.ensures in
    rw (c.at.ensures, e.number) (open_last _ _ _ _ _ _ e.lines e.line c.if-not-line.true ∙ sym c.loop-line.invariant.left)

pub returns-in-Satisfiable : goal.returns-in-Satisfiable
returns-in-Satisfiable c =
    let e = c.next_line-line.ensures in
    let line = open_line _ _ _ _ _ _ e.lines e.line c.if-not-line.false c.next_line-line.result.kind e.kind in
    rw c.in-Satisfiable.is at line ∙ sym c.loop-line.invariant.left

pub returns-in-Unsatisfiable : goal.returns-in-Unsatisfiable
returns-in-Unsatisfiable c =
    let e = c.next_line-line.ensures in
    let line = open_line _ _ _ _ _ _ e.lines e.line c.if-not-line.false c.next_line-line.result.kind e.kind in
    rw (c.at-in-Unsatisfiable.ensures, e.number) (rw c.in-Unsatisfiable.is at line ∙ sym c.loop-line.invariant.left)

pub returns-in_default : goal.returns-in_default
returns-in_default c =
    let e = c.next_line-line.ensures in
    let d = c.in_default in
    let line = open_other _ _ _ _ _ _ e.lines e.line c.if-not-line.false c.next_line-line.result.kind e.kind
    d.not-Comment d.not-Satisfiable d.not-Unsatisfiable in
    rw (c.at-in_default.ensures, e.number) (line ∙ sym c.loop-line.invariant.left)

pub loop-line-preserved : goal.loop-line-preserved
loop-line-preserved c =
    let e = c.next_line-line.ensures in
    let line = open_line _ _ _ _ _ _ e.lines e.line c.if-not-line.false c.next_line-line.result.kind e.kind in
    record { same = e.same ∙ c.loop-line.invariant.same; left = c.loop-line.invariant.left ∙ sym (rw c.in-Comment.is at line) }
