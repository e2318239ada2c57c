-- One place more of the row.
use Rattle.std.proofs.Common.{◌∙◌, ap, set}
use Rattle.lists.proofs.WritingLaws.{front_none, front_put}
use Rattle.job.specs.ReadOff.{byte}
use Rattle.readoff.proofs.ReadingLaws.{byte_is}
use Rattle.readoff.proofs.rows.put_bits.Goals as goal

pub loop-i-init : goal.loop-i-init
loop-i-init g c = λ f h. front_none (λ i. byte (f i)) c.args.row.now

pub loop-i-preserved : goal.loop-i-preserved
loop-i-preserved g c = λ f h.
    let i = c.loop-i.i in
    let e = c.from.ensures ∙ byte_is c.bit.result ∙ ap byte (h i c.loop-i-test.true c.bit.result c.bit.ensures) in
    ap (λ row. set row i c.from.result) (c.loop-i.invariant f h) ∙ front_put (λ i. byte (f i)) c.args.row.now i c.loop-i-test.true _ e
