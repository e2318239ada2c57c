-- The text is made in an array of zeros; a refusal's line is put in its place.
use Rattle.outputs.specs.Printing.{zeros}
use Rattle.outputs.proofs.PrintingLaws.{shows_prints}
use Rattle.outputs.proofs.show.show.Goals as goal

pub returns : goal.returns
unfolding zeros
returns c =
    let (size, bytes) = shows_prints _ _ _ _ _ _ c.put_run-run.ensures c.or_refusal.ensures in
    record { size = size; bytes = bytes }
