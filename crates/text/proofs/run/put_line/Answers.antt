-- Time and steps, bits, turn and the line feed, one behind the other.
use Rattle.std.proofs.Common.{arith}
use Rattle.put.proofs.PutLaws.{put_then, put_room}
use Rattle.text.specs.RunText.{line_text}
use Rattle.text.proofs.run.put_line.Goals as goal

pub put_byte-requires : goal.put_byte-requires
put_byte-requires c =
    let room = c.requires.room in
    let turn = rw c.get_or.ensures at c.put_turn.ensures in
    let text = put_then (put_then c.put_steps.ensures c.put_bits.ensures (omega (arith, room))) turn (omega (arith, room)) in
    put_room 1 text room

pub returns : goal.returns
unfolding line_text
returns c =
    let room = c.requires.room in
    let turn = rw c.get_or.ensures at c.put_turn.ensures in
    let text = put_then (put_then c.put_steps.ensures c.put_bits.ensures (omega (arith, room))) turn (omega (arith, room)) in
    put_then text c.put_byte.ensures room
