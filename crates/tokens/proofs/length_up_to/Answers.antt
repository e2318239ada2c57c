-- The byte is looked for at the next of the near ones: there it is, or one more is passed.
use Rattle.std.proofs.Common.{arith}
use Rattle.tokens.proofs.FindLaws.{byte_found, byte_passed}
use Rattle.tokens.proofs.length_up_to.Goals as goal

pub returns-then-text-i-clause-value : goal.returns-then-text-i-clause-value
returns-then-text-i-clause-value c =
    let l = c.loop-i in
    omega (arith, l.invariant, byte_found c.args.byte c.args.text.now l.i (omega arith) c.if-text-i.true)

pub loop-i-preserved : goal.loop-i-preserved
loop-i-preserved c =
    let l = c.loop-i in
    omega (arith, l.invariant, byte_passed c.args.byte c.args.text.now l.i (omega arith) c.if-text-i.false)
