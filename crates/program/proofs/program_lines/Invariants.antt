-- `program_lines` reads line by line: what is left from here gives the answer of the whole.
use Rattle.program.proofs.DraftLaws.{Within}
use Rattle.program.specs.Program.{program}
use Rattle.scan.specs.Lines.{size}
use Rattle.scan.specs.Iterating.{lines_left}
use Rattle.job.specs.Limits.{max_text}
use Prim.Native.Nat.{◌+◌, ◌≤◌}
use mathlib.Core.Path.{◌≡◌}
use Rattle.program.proofs.program_lines.Given as goal

abbrev pub invariant-loop-line : goal.invariant-loop-line
invariant-loop-line l = record {
  line_by_line : l.n ≤ l.at;
  size : l.at + size (lines_left l.line-iterator) ≤ max_text + 1;
  within : Within l.draft;
  same : program l.initial.draft l.from 1 (lines_left l.lines) ≡ program l.draft l.at l.n (lines_left l.line-iterator);
}
