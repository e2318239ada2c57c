-- The lines from one lemma on, written behind those before, give them all.
use Rattle.filing.proofs.PartLaws.{Going}
use Rattle.filing.proofs.LineLaws.{lines_from}
use Rattle.filing.proofs.lemma_lines.put_lemmas.Given as goal

abbrev pub invariant-loop-row : goal.invariant-loop-row
invariant-loop-row l = Going l.initial.page (lines_from l.job l.rows 0) l.page (lines_from l.job l.rows l.row-index)
