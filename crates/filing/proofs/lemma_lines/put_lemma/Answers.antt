-- The line from name i on, written behind the names before, gives all of it.
use Rattle.std.proofs.Common.{[], ◌∷◌, ◌++◌, ◌+◌, refl, arith, false}
use Rattle.std.proofs.Math.ListN.{get_or}
use Rattle.filing.specs.declared.names.Name.{Name}
use Rattle.filing.specs.Names.{literal}
use Rattle.put.proofs.PutLaws.{put_fits}
use Rattle.form.specs.Form.{spelt}
use Rattle.filing.specs.Lines.{gap_text}
use Rattle.filing.proofs.PartLaws.{Going, going_room, going_next, going_last}
use Rattle.filing.proofs.LineLaws.{words_from, line_from, line_next, line_ends}
use Rattle.filing.proofs.lemma_lines.put_lemma.Goals as goal
use Rattle.filing.proofs.lemma_lines.put_lemma.Goals.{After-put_gap}

abbrev none : Name
none = record { item = 0; negated = false }

pub put_gap-requires : goal.put_gap-requires
unfolding words_from
put_gap-requires c =
    let o = c.loop-i in
    let J = c.args.job.now in
    let names = c.args.row.now in
    going_room (gap_text o.i) (spelt J (literal (get_or names o.i none)) ++ line_from J names (o.i + 1)) o.invariant
    (line_next J names o.i none c.loop-i-test.true) c.requires

-- what is left behind the gap
behind_gap : (c : After-put_gap) → Going c.args.page.now (line_from c.args.job.now c.args.row.now 0) c.put_gap.new.page
    (spelt c.args.job.now (literal (get_or c.args.row.now c.loop-i.i none)) ++ line_from c.args.job.now c.args.row.now (c.loop-i.i + 1))
unfolding words_from
behind_gap c =
    let o = c.loop-i in
    let J = c.args.job.now in
    let names = c.args.row.now in
    going_next (gap_text o.i) (spelt J (literal (get_or names o.i none)) ++ line_from J names (o.i + 1)) o.invariant
    (line_next J names o.i none c.loop-i-test.true) c.requires c.put_gap.ensures

pub put_name-requires : goal.put_name-requires
unfolding words_from
put_name-requires c =
    let o = c.loop-i in
    going_room (spelt c.args.job.now (literal (get_or c.args.row.now o.i none))) (line_from c.args.job.now c.args.row.now (o.i + 1))
    (behind_gap (goal.at.put_name-requires c).After-put_gap) refl c.requires

pub loop-i-preserved : goal.loop-i-preserved
unfolding words_from
loop-i-preserved c =
    let o = c.loop-i in
    going_next (spelt c.args.job.now (literal (get_or c.args.row.now o.i none))) (line_from c.args.job.now c.args.row.now (o.i + 1))
    (behind_gap (goal.at.loop-i-preserved c).After-put_gap) refl c.requires c.put_name.ensures

pub returns : goal.returns
unfolding words_from
returns c =
    let o = c.loop-i in
    let e = line_ends c.args.job.now c.args.row.now o.i (omega arith) in
    let left = rw e at o.invariant in
    going_last left (put_fits c.byte.ensures (going_room (10 ∷ []) [] left refl c.requires))
