-- The texts of the bits before x stand one behind the other.
use Rattle.std.proofs.Common.{◌+◌, arith}
use Rattle.lists.specs.Rows.{num}
use Rattle.put.proofs.PutLaws.{row_none, row_next}
use Rattle.text.specs.RunText.{bit_text}
use Rattle.text.proofs.run.put_bits.Goals as goal

pub loop-x-init : goal.loop-x-init
loop-x-init c =
    let a = c.args in
    row_none 26 (λ x. bit_text a.names.now x (num a.group.now (2 + x))) a.page.now

pub loop-x-preserved : goal.loop-x-preserved
loop-x-preserved c =
    let a = c.args in
    let o = c.loop-x in
    let bit = rw c.get_or.ensures at c.put_bit.ensures in
    row_next 26 (λ x. bit_text a.names.now x (num a.group.now (2 + x))) a.page.now o.x o.invariant bit (omega (arith, c.requires.0))
