-- A line behind the closing 0 is a comment, or the first that is none; nothing may stand behind the last LF.
use Rattle.std.proofs.Common.{sym, ◌∙◌}
use borrow.Author.Tests.{eqb-true, eqb-false}
use Rattle.reply.proofs.LineLaws.{close_last, close_empty, close_comment, close_other}
use Rattle.reply.proofs.read_closing.Goals as goal

pub returns-then-is_empty : goal.returns-then-is_empty
returns-then-is_empty c =
    let e = c.next_line-line.ensures in
    let none = eqb-true _ _ (sym c.is_empty.ensures ∙ c.if-is_empty.true) in
    close_empty _ _ _ _ _ _ e.lines e.line c.if-not-line.true none ∙ sym c.loop-line.invariant.left

pub returns-then-not-line : goal.returns-then-not-line
returns-then-not-line c =
    let e = c.next_line-line.ensures in
    let some = eqb-false _ _ (sym c.is_empty.ensures ∙ c.if-is_empty.false) in
    rw e.number (close_last _ _ _ _ _ _ e.lines e.line c.if-not-line.true some ∙ sym c.loop-line.invariant.left)

pub returns-in_default : goal.returns-in_default
returns-in_default c =
    let e = c.next_line-line.ensures in
    let line = close_other _ _ _ _ _ _ e.lines e.line c.if-not-line.false _ e.kind c.in_default.not-Comment in
    rw e.number (line ∙ sym c.loop-line.invariant.left)

pub loop-line-preserved : goal.loop-line-preserved
loop-line-preserved c =
    let e = c.next_line-line.ensures in
    let line = close_comment _ _ _ _ _ _ e.lines e.line c.if-not-line.false _ e.kind c.in-Comment.is in
    record { same = e.same ∙ c.loop-line.invariant.same; left = c.loop-line.invariant.left ∙ line }
