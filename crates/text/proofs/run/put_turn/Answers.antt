-- One word or none, by the byte.
use Rattle.std.proofs.Common.{arith}
use borrow.Author.Tests.{ne_eqb}
use Rattle.put.proofs.PutLaws.{put_then, put_none, put_most}
use Rattle.text.specs.RunText.{turn_text}
use Rattle.text.proofs.run.put_turn.Goals as goal

pub returns-then-b : goal.returns-then-b
unfolding turn_text
returns-then-b c = rw c.if-b.true (put_then c.put_byte.ensures c.put_byte-then-b.ensures c.requires)

pub returns-then-b-2 : goal.returns-then-b-2
unfolding turn_text
returns-then-b-2 c = rw c.if-b-2.true (put_then c.put_byte-then-b-2.ensures c.put_byte-then-b-2-2.ensures c.requires)

pub returns-else-b-2 : goal.returns-else-b-2
unfolding turn_text
returns-else-b-2 c =
    let b = c.args.b in
    rw (ne_eqb b 1 c.if-b.false, ne_eqb b 2 c.if-b-2.false) (put_most (put_none c.args.page.now) (omega arith))
