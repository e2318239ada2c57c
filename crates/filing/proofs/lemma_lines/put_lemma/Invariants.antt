-- The line from name i on, written behind the names before, gives all of it.
use Rattle.filing.proofs.PartLaws.{Going}
use Rattle.filing.proofs.LineLaws.{line_from}
use Rattle.filing.proofs.lemma_lines.put_lemma.Given as goal

abbrev pub invariant-loop-i : goal.invariant-loop-i
invariant-loop-i l = Going l.initial.page (line_from l.job l.row 0) l.page (line_from l.job l.row l.i)
