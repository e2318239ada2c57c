-- The lines after the first are asked whether their comments fit, and then they are put.
use Rattle.std.proofs.Common.{sym, ◌∙◌, arith, rules}
use borrow.Author.Tests.{leb-true, leb-false}
use Rattle.put.proofs.PutLaws.{kept}
use Rattle.text.specs.Comments.{comments}
use Rattle.text.proofs.WholeLaws.{too_long, given_whole}
use Rattle.text.proofs.comment_text.Goals as goal

pub returns-then-not-remarks_fit : goal.returns-then-not-remarks_fit
unfolding comments
returns-then-not-remarks_fit c =
    let h = leb-false _ _ (sym (rw c.lines_behind_first.ensures at c.remarks_fit.ensures) ∙ c.if-not-remarks_fit.true) in
    too_long _ c.args.out.now h

pub returns : goal.returns
unfolding comments
returns c =
    let start = c.new-page.ensures in
    let h = leb-true _ _ (sym (rw c.lines_behind_first.ensures at c.remarks_fit.ensures) ∙ c.if-not-remarks_fit.false) in
    let p = rw c.lines_behind_first-2.ensures at c.put_remarks.ensures in
    let out = rw (start.out, start.end) at p.out in
    let (counted, written) = given_whole _ c.args.out.now c.put_remarks.new.page.end c.put_remarks.new.page.out.now
    (omega (arith, p.end, start.end)) h out in
    (counted, kept written (search (rules, p.same_reference, start.same_reference)))
