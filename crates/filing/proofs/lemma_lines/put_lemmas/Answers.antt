-- The lines from one lemma on, written behind those before, give them all.
use Rattle.std.proofs.Common.{◌≡◌, ◌++◌, ◌+◌, sym, ap, ◌∙◌}
use Rattle.filing.specs.Lines.{lemma_line}
use Rattle.filing.specs.Names.{clause}
use Rattle.filing.proofs.PartLaws.{going_room, going_next, going_ends}
use Rattle.filing.proofs.LineLaws.{lines_from, lines_next, lines_end}
use Rattle.filing.proofs.lemma_lines.put_lemmas.Goals as goal
use Rattle.filing.proofs.lemma_lines.put_lemmas.Goals.{After-deref}

-- the line that comes next is that of the row
next : (c : After-deref) → lines_from c.args.job.now c.args.rows.now c.loop-row.row-index
    ≡ lemma_line c.args.job.now (clause c.deref.result.now) ++ lines_from c.args.job.now c.args.rows.now (c.loop-row.row-index + 1)
next c =
    let J = c.args.job.now in
    let rows = c.args.rows.now in
    let k = c.loop-row.row-index in
    lines_next J rows k c.row-item.result c.loop-row-test.true
    ∙ ap (λ names. lemma_line J (clause names) ++ lines_from J rows (k + 1))
    (ap (λ row. row.items) (sym c.row-item.is) ∙ sym c.deref.ensures.0)

pub put_lemma-requires : goal.put_lemma-requires
put_lemma-requires c =
    let J = c.args.job.now in
    let o = c.loop-row in
    going_room (lemma_line J (clause c.deref.result.now)) (lines_from J c.args.rows.now (o.row-index + 1)) o.invariant
    (next (goal.at.put_lemma-requires c).After-deref) c.requires

pub loop-row-preserved : goal.loop-row-preserved
loop-row-preserved c =
    let J = c.args.job.now in
    let o = c.loop-row in
    going_next (lemma_line J (clause c.deref.result.now)) (lines_from J c.args.rows.now (o.row-index + 1)) o.invariant
    (next (goal.at.loop-row-preserved c).After-deref) c.requires c.put_lemma.ensures

pub returns : goal.returns
returns c = going_ends c.loop-row.invariant (lines_end c.args.job.now c.args.rows.now c.loop-row.row-index c.loop-row-test.false)
