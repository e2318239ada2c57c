-- The lines that are left, written behind those before, give them all.
use Rattle.scan.specs.Lines.{lines}
use Rattle.scan.specs.Iterating.{lines_left}
use Rattle.filing.proofs.KeptLineLaws.{left}
use Rattle.filing.proofs.PartLaws.{Going}
use Rattle.filing.proofs.kept_lines.put_kept.Given as goal

abbrev pub invariant-loop-line : goal.invariant-loop-line
invariant-loop-line l = Going l.initial.page (left (lines l.text)) l.page (left (lines_left l.line-iterator))
