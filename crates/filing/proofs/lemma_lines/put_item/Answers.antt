-- The item is that of a step, or of a variable.
use borrow.Author.Tests.{lt-ltb, le-ltb}
use Rattle.put.proofs.PutLaws.{put_fits}
use Rattle.form.specs.Form.{name_of}
use Rattle.filing.proofs.lemma_lines.put_item.Goals as goal

pub returns-then-item-steps : goal.returns-then-item-steps
unfolding name_of
returns-then-item-steps c =
    let step = lt-ltb c.args.item c.args.job.now.program.steps c.if-item-steps.true in
    rw step (put_fits c.name.ensures (rw step at c.requires))

pub returns-else-item-steps : goal.returns-else-item-steps
unfolding name_of
returns-else-item-steps c =
    let variable = le-ltb c.args.item c.args.job.now.program.steps c.if-item-steps.false in
    rw variable (put_fits c.name-else-item-steps.ensures (rw variable at c.requires))
