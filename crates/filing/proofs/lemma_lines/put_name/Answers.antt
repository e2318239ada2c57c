-- The sign, and the item behind it.
use Rattle.std.proofs.Common.{arith, length}
use Rattle.put.proofs.PutLaws.{put_fits, put_then, put_room, put_own}
use Rattle.form.specs.Form.{name_of, spelt}
use Rattle.filing.proofs.lemma_lines.put_name.Goals as goal
use Rattle.filing.proofs.lemma_lines.put_name.Goals.{then-name, else-name}

pub put_item-requires : goal.put_item-requires
unfolding spelt
put_item-requires c = rw c.from.ensures (elim c.if-name.branch [
  | then-name w ↦
      let room = rw w.if-name.true at c.requires in
      let sign = put_fits w.byte.ensures (omega (arith, room)) in
      rw w.page-is (put_room (length (name_of c.args.job.now c.args.name.item)) sign (omega (arith, room)))
  | else-name w ↦ rw w.page-is (rw w.if-name.false at c.requires)
])

pub returns : goal.returns
unfolding spelt
returns c = elim c.if-name.branch [
  | then-name w ↦
      let room = rw w.if-name.true at c.requires in
      let sign = put_fits w.byte.ensures (omega (arith, room)) in
      let item = rw (c.from.ensures, w.page-is) at c.put_item.ensures in
      rw w.if-name.true (put_own (put_then sign item (omega (arith, room))))
  | else-name w ↦
      let item = rw (c.from.ensures, w.page-is) at c.put_item.ensures in
      rw w.if-name.false item
]
