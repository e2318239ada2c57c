-- The LF is looked for in the rest of the text.
use Rattle.std.proofs.Common.{ap, ◌∙◌}
use Rattle.std.proofs.lemmas.List.{take_rest}
use Rattle.lists.proofs.PieceLaws.{take_up_to}
use Rattle.lists.specs.Pieces.{up_to}
use Rattle.reader.proofs.line_at.Goals as goal

pub returns-clause-text : goal.returns-clause-text
returns-clause-text c =
    let rest = take_rest c.args.text.now c.args.at in
    rw c.length_up_to-length.ensures.value (take_up_to 10 _ ∙ ap (up_to 10) rest)
