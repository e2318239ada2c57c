-- The two bytes, the line and its line feed, one behind the other, or nothing.
use Rattle.std.proofs.Common.{sym, ◌∙◌, arith}
use Rattle.put.proofs.PutLaws.{put_fits, put_none, put_then, put_own, put_room}
use Rattle.text.proofs.CommentLaws.{remark_is, remark_not, remark_long}
use Rattle.text.proofs.comments.put_remark.Goals as goal

pub returns-then-is_comment : goal.returns-then-is_comment
returns-then-is_comment c =
    let line = c.args.line.now in
    let h = sym c.is_comment.ensures ∙ c.if-is_comment.true in
    let n = remark_long line h in
    let room = c.requires in
    let a = put_fits c.part.ensures (omega (arith, room)) in
    let b = put_then a (put_fits c.part-then-is_comment.ensures (put_room _ a (omega (arith, room)))) (omega (arith, room)) in
    rw (remark_is line h) (put_own (put_then b (put_fits c.byte.ensures (put_room 1 b (omega (arith, room)))) (omega (arith, room))))

pub returns-else-is_comment : goal.returns-else-is_comment
returns-else-is_comment c = rw (remark_not c.args.line.now (sym c.is_comment.ensures ∙ c.if-is_comment.false)) (put_none c.args.page.now)
