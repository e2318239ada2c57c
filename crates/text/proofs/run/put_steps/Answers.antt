-- The time and the two steps, one behind the other.
use Rattle.std.proofs.Common.{arith}
use Rattle.lists.proofs.NumeralLaws.{length_word}
use Rattle.put.proofs.PutLaws.{put_then}
use Rattle.text.specs.RunText.{steps_text}
use Rattle.text.proofs.run.put_steps.Goals as goal

pub put_number-requires : goal.put_number-requires
put_number-requires c = omega (arith, c.requires, length_word c.args.t c.ranges.t.fits)

pub returns : goal.returns
unfolding steps_text
returns c =
    let room = c.requires in
    let a = rw c.get_or.ensures at c.put_step.ensures in
    let b = rw c.get_or-2.ensures at c.put_step-2.ensures in
    put_then (put_then c.put_number.ensures a (omega (arith, room))) b room
