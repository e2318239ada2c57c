-- Each part goes behind the line so far.
use Rattle.std.proofs.Common.{arith}
use Rattle.lists.proofs.NumeralLaws.{length_word}
use Rattle.put.proofs.PutLaws.{put_within, put_fits, put_then, put_room}
use Rattle.text.specs.Lines.{sentence}
use Rattle.text.proofs.sentence.put_sentence.Goals as goal

pub put_number-requires : goal.put_number-requires
put_number-requires c =
    let room = c.requires.room in
    let first = put_within c.part.ensures c.requires.words.0 (omega (arith, room)) in
    omega (arith, put_room 20 first (omega (arith, room)), length_word c.args.x c.ranges.x.fits)

pub put_number-requires-2 : goal.put_number-requires-2
put_number-requires-2 c =
    let room = c.requires.room in
    let first = put_within c.part.ensures c.requires.words.0 (omega (arith, room)) in
    let x = put_then first c.put_number.ensures (omega (arith, room)) in
    let second = put_within c.part-2.ensures c.requires.words.1 (put_room 8 x (omega (arith, room))) in
    omega (arith, put_room 20 (put_then x second (omega (arith, room))) (omega (arith, room)), length_word c.args.y c.ranges.y.fits)

pub returns : goal.returns
unfolding sentence
returns c =
    let room = c.requires.room in
    let first = put_within c.part.ensures c.requires.words.0 (omega (arith, room)) in
    let x = put_then first c.put_number.ensures (omega (arith, room)) in
    let second = put_within c.part-2.ensures c.requires.words.1 (put_room 8 x (omega (arith, room))) in
    let y = put_then (put_then x second (omega (arith, room))) c.put_number-2.ensures (omega (arith, room)) in
    put_then y (put_fits c.byte.ensures (put_room 1 y room)) room
