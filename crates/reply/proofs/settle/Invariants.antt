-- The loop turns one mark more into a value; a mark that is missing ends it.
use Rattle.std.proofs.Common.{◌≡◌, length}
use Rattle.lists.specs.Rows.{num}
use Rattle.reply.specs.Answers.{cleaned}
use Rattle.reply.specs.Reply.{missing}
use Rattle.reply.proofs.settle.Given as goal

abbrev pub invariant-loop-i : goal.invariant-loop-i
invariant-loop-i l = record {
  turned : l.work ≡ cleaned l.i l.initial.work;
  some : missing l.i (num l.initial.work) ≡ l.i;
  long : length l.work ≡ length l.initial.work;
}
