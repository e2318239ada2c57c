-- A refusal's number is small and its place of 64 bits, so its line has room.
use Rattle.std.proofs.Common.{arith}
use Rattle.parse.proofs.FaultLaws.{number_small}
use Rattle.text.specs.Lines.{refused}
use Rattle.text.proofs.LengthLaws.{refused_length}
use Rattle.outputs.proofs.PrintingLaws.{given_some, given_whole}
use Rattle.outputs.proofs.line.put_refusal.Goals as goal

pub unwrap-requires : goal.unwrap-requires
unwrap-requires c =
    let r = c.args.refusal in
    let room = refused_length r (omega (arith, number_small r.fault)) (omega (arith, c.well_formed)) in
    given_some (refused r) c.args.out.now _ (omega arith) _ c.refusal_text.ensures

pub returns : goal.returns
returns c =
    let r = c.args.refusal in
    let room = refused_length r (omega (arith, number_small r.fault)) (omega (arith, c.well_formed)) in
    given_whole (refused r) c.args.out.now _ (omega arith) _ c.refusal_text.ensures _ c.unwrap.ensures
