-- The text is made in an array of zeros; the call gives the form, or a refusal, which leaves the array to the refusal's line.
use Rattle.std.proofs.Common.{arith}
use Rattle.outputs.specs.File.{filed}
use Rattle.outputs.specs.Printing.{zeros}
use Rattle.outputs.proofs.PrintingLaws.{shows_prints, written_within}
use Rattle.outputs.proofs.ReadLaws.{files}
use Rattle.outputs.proofs.file.file.Goals as goal

pub returns : goal.returns
unfolding zeros
returns c =
    let form = c.file-form in
    let (size, bytes) = shows_prints _ _ _ _ _ _ (files c.args.text.now _ _ (omega arith) _ form.ensures) c.or_refusal.ensures in
    record { size = size; bytes = bytes }

-- the text lies in the array
pub invariant_of-printed : goal.invariant_of-printed
invariant_of-printed c =
    let form = c.file-form in
    let (size, bytes) = shows_prints _ _ _ _ _ _ (files c.args.text.now _ _ (omega arith) _ form.ensures) c.or_refusal.ensures in
    let within = written_within _ _ (filed c.args.text.now) _ size bytes in
    omega (arith, within)
