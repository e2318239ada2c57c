-- The loop keeps what is left: all the words come to what the words from here on come to, with the marks so far.
use Rattle.std.proofs.Common.{◌≡◌, ◌-◌, length}
use Rattle.lists.specs.Pieces.{cut}
use Rattle.reader.specs.Reader.{ahead}
use Rattle.reply.specs.Lines.{numbers_in}
use Rattle.reply.specs.Said.{marks}
use Rattle.reply.proofs.read_numbers.Given as goal

abbrev pub invariant-loop-progress : goal.invariant-loop-progress
invariant-loop-progress l = record {
  same : l.reader.text ≡ l.initial.reader.text;
  long : length l.work ≡ length l.initial.work;
  left : numbers_in marks (length l.initial.work) l.initial.work (cut 32 (ahead l.initial.reader))
      ≡ numbers_in marks (length l.initial.work) l.work (cut 32 (ahead l.reader));
}

abbrev pub decreases-loop-progress : goal.decreases-loop-progress
decreases-loop-progress l = length l.reader.text.now - l.reader.at
