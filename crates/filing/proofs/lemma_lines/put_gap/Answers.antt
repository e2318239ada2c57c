-- Before the first name there is no space.
use Rattle.std.proofs.Common.{arith}
use Rattle.filing.proofs.LineLaws.{gap_none, gap_space}
use Rattle.filing.proofs.lemma_lines.put_gap.Goals as goal

pub returns-then-i-ne0 : goal.returns-then-i-ne0
returns-then-i-ne0 c = gap_space c.args.i c.if-i-ne0.true c.byte.ensures c.requires

pub returns-else-i-ne0 : goal.returns-else-i-ne0
returns-else-i-ne0 c = gap_none c.args.page.now c.args.i (omega arith)
