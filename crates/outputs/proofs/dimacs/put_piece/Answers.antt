-- The clause call is lent as many numbers as the text has room for, so that the text of what it gives goes in whole.
use Rattle.std.proofs.Common.{◌≡◌, ◌≤◌, ◌++◌, sym, ap, ◌∙◌, arith, length, length-append, take, drop}
use lib.Seq.{length-take-le}
use Rattle.outputs.specs.Dimacs.{next_piece}
use Rattle.outputs.proofs.PieceLaws.{no_text, piece_refused, piece_within, piece_text}
use Rattle.outputs.proofs.dimacs.put_piece.Goals as goal
use Rattle.outputs.proofs.dimacs.put_piece.Goals.{After-min-room, In-Ok}

-- the lent numbers are as many as the room
lent : (c : After-min-room) → length (take c.min-room.result c.args.numbers.now) ≡ c.min-room.result
lent c = length-take-le c.min-room.result c.args.numbers.now (omega (arith, c.min-room.ensures))

-- the numbers that were written lie in them
held : (c : In-Ok) → let numbers = c.args.numbers.now in
    c.in-Ok.piece.numbers ≤ length (c.clauses.new.out ++ drop c.min-room.result numbers)
held c =
    let a = c.args in
    let piece = c.in-Ok.is in
    let room = length-take-le c.min-room.result a.numbers.now (omega (arith, c.min-room.ensures)) in
    let within = piece_within a.j a.c _ _ _ (c.clauses.ensures.answer, c.clauses.ensures.buffer) _ piece (omega (arith, room)) in
    rw length-append (omega arith)

pub returns-in_default : goal.returns-in_default
returns-in_default c =
    let a = c.args in
    let given = piece_refused a.j a.c _ _ _ (c.clauses.ensures.answer, c.clauses.ensures.buffer) _ c.in_default.is in
    let room = lent (goal.at.returns-in_default c).After-min-room ∙ c.min-room.ensures in
    no_text _ a.out.now (ap (next_piece a.j a.c) (sym room) ∙ given)

pub slice_bounds-numbers_text-end : goal.slice_bounds-numbers_text-end
slice_bounds-numbers_text-end c = held (goal.at.slice_bounds-numbers_text-end c).In-Ok

pub slice_bounds-numbers_text-end-2 : goal.slice_bounds-numbers_text-end-2
slice_bounds-numbers_text-end-2 c = sym (length-take-le _ _ (held (goal.at.slice_bounds-numbers_text-end-2 c).In-Ok))

pub returns : goal.returns
returns c =
    let a = c.args in
    let given = c.clauses.ensures in
    let room = lent (goal.at.returns c).After-min-room ∙ c.min-room.ensures in
    let text = c.numbers_text-texted in
    rw (← room)
    (piece_text a.j a.c _ _ _ (given.answer, given.buffer) _ c.in-Ok.is
    (omega (arith, lent (goal.at.returns c).After-min-room))
    _ a.out.now _ _ (text.ensures.value, text.ensures.count_value)
    (omega (arith, lent (goal.at.returns c).After-min-room, c.min-room.ensures)))
