-- The line goes onto the page at once where any would fit, or else by way of an array.
use Rattle.std.proofs.Common.{refl, sym, ◌∙◌, arith, rules}
use borrow.Author.Tests.{leb-true}
use Rattle.text.proofs.GroupLaws.{line_of_rest}
use Rattle.text.proofs.TextsLaws.{put_here}
use Rattle.text.proofs.run.try_put_line.Goals as goal

pub returns-then-has_room : goal.returns-then-has_room
returns-then-has_room c =
    let a = c.args in
    let line = rw (c.rest-group.ensures, line_of_rest a.j.now a.run.now a.t) at c.put_line.ensures in
    put_here line refl refl (omega (arith, leb-true _ _ (sym c.has_room.ensures ∙ c.if-has_room.true))) refl refl
    (search (rules, line.same_reference))

pub returns : goal.returns
returns c =
    let a = c.args in
    rw (c.rest-group.ensures, line_of_rest a.j.now a.run.now a.t) at c.try_put_made.ensures
