-- The text is made in an array of zeros; a refusal's line is put in its place.
use Rattle.std.proofs.Common.{ap, ◌∙◌}
use Rattle.lists.specs.Writing.{write}
use Rattle.text.specs.Lines.{refused}
use Rattle.outputs.specs.Printing.{zeros}
use Rattle.outputs.proofs.PrintingLaws.{put_as}
use Rattle.outputs.proofs.dimacs.opening.Goals as goal
use Rattle.outputs.proofs.dimacs.opening.Goals.{in-Ok, in-Err}

pub returns-clause-text : goal.returns-clause-text
unfolding zeros
returns-clause-text c =
    elim c.match-put_opening.branch [
      | in-Ok w ↦
          let (size, holds) = w.in-Ok.ensures.0 in
          rw (w.array-is, w.length-is) (record { size = size; bytes = holds })
      | in-Err w ↦
          let (line, same) = w.in-Err.ensures.0 in
          let (size, holds) = w.put_refusal.ensures in
          let (n, put) = put_as _ (size, holds ∙ ap (λ l. write l 0 (refused w.in-Err.refusal)) same) line in
          rw (w.array-is, w.length-is) (record { size = n; bytes = put })
    ]
