-- Each number is put whole or not at all, and takes at most its room.
use Rattle.std.proofs.Common.{rules}
use Rattle.text.specs.Dimacs.{number_room, number_text}
use Rattle.text.proofs.numbers_text.Goals as goal

pub returns : goal.returns
returns c = record {
  value = c.put_texts.ensures.value number_room (number_text c.args.numbers.now) (search rules);
  count_value = c.put_texts.ensures.all number_room (number_text c.args.numbers.now) (search rules);
}
