-- The line is made on a page of its own, and put where it has room.
use Rattle.std.proofs.Common.{rules}
use Rattle.text.proofs.TextsLaws.{put_made}
use Rattle.text.proofs.run.try_put_made.Goals as goal

pub returns : goal.returns
returns c =
    let line = c.put_line.ensures in
    put_made line c.new-one.ensures.end c.has_room-fits.ensures c.part.ensures
    (search (rules, line.same_reference, c.new-one.ensures.same_reference))
