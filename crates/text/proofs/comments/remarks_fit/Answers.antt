-- What is left of the comments fits what is left of the room exactly when all of them fit the room.
use mathlib.Core.Path.{sym, ap, ◌∙◌}
use native.Mathlib.Omega.{arith}
use borrow.Author.Tests.{le-leb}
use lib.Dec.{leb}
use lib.ListN.{length}
use Rattle.scan.specs.Iterating.{row_of, lines_left}
use Rattle.text.specs.Comments.{remarks}
use Rattle.text.proofs.CommentLaws.{left_lemmas, fit_next, fit_not}
use Rattle.text.proofs.comments.remarks_fit.Goals as goal

pub returns-then-is_lemmas : goal.returns-then-is_lemmas
returns-then-is_lemmas c =
    let o = c.loop-line in
    let e = ap remarks c.in-Some.ensures.steps
    ∙ left_lemmas (row_of c.in-Some.line) (lines_left c.next.new.self) (sym c.is_lemmas.ensures ∙ c.if-is_lemmas.true) in
    sym (le-leb 0 o.left (omega arith)) ∙ ap (λ s. leb (length s) o.left) (sym e) ∙ o.invariant

pub returns-then-left-n : goal.returns-then-left-n
returns-then-left-n c =
    let o = c.loop-line in
    let i = rw c.in-Some.ensures.steps at o.invariant in
    fit_not (row_of c.in-Some.line) (lines_left c.next.new.self) o.left (sym c.is_lemmas.ensures ∙ c.if-is_lemmas.false)
    (omega (arith, c.remark_length-n.ensures)) ∙ i

pub loop-line-preserved : goal.loop-line-preserved
loop-line-preserved c =
    let o = c.loop-line in
    let n = c.remark_length-n.ensures in
    let i = rw c.in-Some.ensures.steps at o.invariant in
    rw n (fit_next (row_of c.in-Some.line) (lines_left c.next.new.self) o.left
    (sym c.is_lemmas.ensures ∙ c.if-is_lemmas.false) (omega arith)
    ∙ i)

pub returns : goal.returns
unfolding remarks
returns c =
    let o = c.loop-line in
    sym (le-leb 0 o.left (omega arith)) ∙ ap (λ ls. leb (length (remarks ls)) o.left) (sym c.in-None.ensures.steps.0) ∙ o.invariant
