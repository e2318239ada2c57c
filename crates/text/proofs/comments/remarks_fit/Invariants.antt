-- What is left of the comments fits what is left of the room exactly when all of them fit the room.
use mathlib.Core.Path.{◌≡◌}
use lib.Dec.{leb}
use lib.ListN.{length}
use Rattle.scan.specs.Iterating.{lines_left}
use Rattle.text.specs.Comments.{remarks}
use Rattle.text.proofs.comments.remarks_fit.Given as goal

abbrev pub invariant-loop-line : goal.invariant-loop-line
invariant-loop-line l =
    leb (length (remarks (lines_left l.line-iterator))) l.left ≡ leb (length (remarks (lines_left l.fn.lines))) l.fn.room
