-- The tests come in the definition's order; the last is of what stands behind the digits, and then the mark is stored.
use Rattle.std.proofs.Common.{sym, ap, ◌∙◌}
use Rattle.lists.specs.Rows.{num}
use Rattle.reply.proofs.LineLaws.{say_loose, say_more}
use Rattle.reply.specs.Lines.{say_in}
use Rattle.reply.proofs.mark.Goals as goal

pub returns-in-Bad : goal.returns-in-Bad
unfolding say_in
returns-in-Bad c = rw c.in-Bad.is

pub returns-in-Zero : goal.returns-in-Zero
unfolding say_in
returns-in-Zero c = rw c.in-Zero.is

pub returns-then-not-ends : goal.returns-then-not-ends
returns-then-not-ends c =
    let n = c.in-Number in
    let at = c.place_and_mark-place.ensures.place in
    let w = c.args.work.now in
    let new = sym (ap (num w) at) ∙ c.if-work-place-ne0.false in
    rw n.is (say_loose _ w n.literal n.ends (rw at at c.if-work-place.false) new c.if-not-ends.true)

pub returns-else-not-ends : goal.returns-else-not-ends
returns-else-not-ends c =
    let n = c.in-Number in
    let said = c.place_and_mark-place.ensures in
    let w = c.args.work.now in
    let new = sym (ap (num w) said.place) ∙ c.if-work-place-ne0.false in
    rw (said.place, said.mark, n.is) (say_more _ w n.literal n.ends (rw said.place at c.if-work-place.false) new c.if-not-ends.false)
