-- A comment says nothing, behind `v ` the line is its words, and any other line is a fault.
use Rattle.std.proofs.Common.{sym, ap, length, ◌∙◌}
use Rattle.std.proofs.lemmas.List.{take_rest}
use Rattle.lists.specs.Pieces.{cut}
use Rattle.reply.proofs.LineLaws.{line_says, no_line, v_room}
use Rattle.reply.specs.Lines.{numbers_in}
use Rattle.reply.specs.Said.{marks}
use Rattle.reply.proofs.read_value_line.Goals as goal

pub slice_bounds-read_numbers-count : goal.slice_bounds-read_numbers-count
slice_bounds-read_numbers-count c = v_room c.args.line.text.now (sym c.in-Values.is ∙ c.args.line.known)

pub slice_bounds-read_numbers-start : goal.slice_bounds-read_numbers-start
slice_bounds-read_numbers-start c = v_room c.args.line.text.now (sym c.in-Values.is ∙ c.args.line.known)

pub returns-in-Comment : goal.returns-in-Comment
returns-in-Comment c =
    let w = c.args.work.now in
    rw c.in-Comment.is at (line_says (length w) w c.args.line.text.now c.args.line.kind c.args.line.known)

pub returns-in-Values : goal.returns-in-Values
returns-in-Values c =
    let p = c.args.line.text.now in
    let w = c.args.work.now in
    let rest = ap (λ l. numbers_in marks (length w) w (cut 32 l)) (take_rest p 2) in
    c.read_numbers.ensures ∙ rest ∙ rw c.in-Values.is at (line_says (length w) w p c.args.line.kind c.args.line.known)

pub returns-in_default : goal.returns-in_default
returns-in_default c =
    let d = c.in_default in
    no_line _ c.args.work.now c.args.line.text.now c.args.line.kind c.args.line.known d.not-Comment d.not-Values
