-- The loop keeps what is left: the lines from the first on come to what the lines from this one on come to.
use Rattle.std.proofs.Common.{◌≡◌, ◌-◌, length}
use Rattle.lists.specs.Pieces.{cut}
use Rattle.reader.specs.Reader.{ahead}
use Rattle.reply.specs.Lines.{closing}
use Rattle.reply.proofs.read_closing.Given as goal

abbrev pub invariant-loop-line : goal.invariant-loop-line
invariant-loop-line l = record {
  same : l.reader.text ≡ l.initial.reader.text;
  left : closing l.initial.reader.line (cut 10 (ahead l.initial.reader)) ≡ closing l.reader.line (cut 10 (ahead l.reader));
}

abbrev pub decreases-loop-line : goal.decreases-loop-line
decreases-loop-line l = length l.reader.text.now - l.reader.at
