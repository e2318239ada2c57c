-- The opening, the values and the closing lines come one behind the other, as in the definition.
use Rattle.reply.proofs.LineLaws.{passed_on}
use Rattle.reply.proofs.HeardLaws.{not_begun, not_told, all_heard, not_closed}
use Rattle.reply.proofs.hear.Goals as goal

pub returns-in_err-read_opening : goal.returns-in_err-read_opening
returns-in_err-read_opening c =
    let new = c.new-reader.ensures in
    let heard = not_begun _ c.args.work.now _ c.new-reader.result new.line new.all _ _ c.read_opening.ensures _ c.in_err-read_opening.was in
    rw (passed_on _ _ c.from_residual.ensures) heard

pub returns-in_err-read_values : goal.returns-in_err-read_values
returns-in_err-read_values c =
    let new = c.new-reader.ensures in
    let v = c.read_values in
    let heard = not_told _ c.args.work.now _ c.new-reader.result new.line new.all _ _ c.read_opening.ensures _ c.in_ok-read_opening.was
    v.result v.new.reader v.new.work v.ensures _ c.in_err-read_values.was in
    rw (passed_on _ _ c.from_residual-in_err-read_values.ensures) heard

pub returns-in-None : goal.returns-in-None
returns-in-None c =
    let new = c.new-reader.ensures in
    let v = c.read_values in
    all_heard _ c.args.work.now _ c.new-reader.result new.line new.all _ _ c.read_opening.ensures _ c.in_ok-read_opening.was
    v.result v.new.reader v.new.work v.ensures _ c.in_ok-read_values.was _ c.read_closing.ensures c.in-None.is

pub returns-in-Some : goal.returns-in-Some
returns-in-Some c =
    let new = c.new-reader.ensures in
    let v = c.read_values in
    let heard = not_closed _ c.args.work.now _ c.new-reader.result new.line new.all _ _ c.read_opening.ensures _ c.in_ok-read_opening.was
    v.result v.new.reader v.new.work v.ensures _ c.in_ok-read_values.was _ c.read_closing.ensures c.in-Some.line c.in-Some.is in
    rw c.at.ensures heard
