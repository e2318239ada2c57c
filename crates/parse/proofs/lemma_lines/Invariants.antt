-- `lemma_lines` reads line by line: what is left from here gives the answer of the whole.
use Rattle.parse.specs.Lemmas.{lemma_lines}
use Rattle.scan.specs.Lines.{lines}
use Rattle.scan.specs.Iterating.{lines_left}
use lib.ListN.{length, drop}
use Prim.Native.Nat.{◌+◌, ◌≤◌}
use mathlib.Core.Path.{◌≡◌}
use Rattle.parse.proofs.lemma_lines.Given as goal

-- the count of `enumerate` goes on, and there are no more lines than bytes
abbrev pub invariant-loop-i : goal.invariant-loop-i
invariant-loop-i l = goal.iterator-loop-i.can_next l.i-iterator × goal.iterator-loop-i.is_finite l.i-iterator × record {
  few : l.i-iterator.count + length (lines_left l.i-iterator.iter) ≤ length (lines (drop l.from l.text));
  program : l.job.program ≡ l.initial.job.program;
  same : lemma_lines l.initial.job l.before (lines (drop l.from l.text))
      ≡ lemma_lines l.job (l.before + l.i-iterator.count) (lines_left l.i-iterator.iter);
}
