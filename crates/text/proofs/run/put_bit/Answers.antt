-- The word, the sign and the number, one behind the other.
use Rattle.std.proofs.Common.{arith}
use Rattle.lists.proofs.NumeralLaws.{length_word}
use Rattle.put.proofs.PutLaws.{put_then, put_room}
use Rattle.text.proofs.run.put_bit.Goals as goal

pub put_byte-requires : goal.put_byte-requires
put_byte-requires c = put_room 1 c.put_word.ensures (omega (arith, c.requires))

pub put_number-requires : goal.put_number-requires
put_number-requires c =
    let room = c.requires in
    let text = put_then c.put_word.ensures c.put_byte.ensures (omega (arith, room)) in
    omega (arith, put_room 20 text room, length_word c.from.result c.from.type_inv)

pub returns : goal.returns
returns c =
    let room = c.requires in
    put_then (put_then c.put_word.ensures c.put_byte.ensures (omega (arith, room))) (rw c.from.ensures at c.put_number.ensures) room
