-- The loop keeps what is left: the lines from the first on tell what the lines from this one on tell, with the marks so far.
use Rattle.std.proofs.Common.{◌≡◌, ◌-◌, length}
use Rattle.lists.specs.Pieces.{cut}
use Rattle.reader.specs.Reader.{ahead}
use Rattle.reply.specs.Lines.{value_lines_in}
use Rattle.reply.specs.Said.{marks}
use Rattle.reply.proofs.read_values.Given as goal

abbrev pub invariant-loop-progress : goal.invariant-loop-progress
invariant-loop-progress l = record {
  same : l.reader.text ≡ l.initial.reader.text;
  long : length l.work ≡ length l.initial.work;
  left : value_lines_in marks (length l.initial.work) l.initial.reader.line l.initial.work (cut 10 (ahead l.initial.reader))
      ≡ value_lines_in marks (length l.initial.work) l.reader.line l.work (cut 10 (ahead l.reader));
}

abbrev pub decreases-loop-progress : goal.decreases-loop-progress
decreases-loop-progress l = length l.reader.text.now - l.reader.at
