-- The form of an accepted text is no longer than the text, so it has room.
use mathlib.Core.Path.{subst}
use Rattle.std.proofs.Common.{ap, arith, length, Ok}
use Rattle.parse.proofs.ReadingLaws.{Promised}
use Rattle.filing.proofs.FilingLaws.{job_sized, never_grows}
use Rattle.filing.proofs.file.Goals as goal

pub put_form-requires : goal.put_form-requires
put_form-requires c =
    let text = c.args.text.now in
    let job = c.in-Ok.job in
    let read : Promised text c.read-read.result = (c.read-read.ensures.answer, c.read-read.ensures.table) in
    let given : Promised text (Ok job) = subst (Promised text) c.in-Ok.is read in
    let page = c.new-page.ensures in record {
      sized = job_sized text job given;
      room = omega (arith, page.end, ap length page.out, never_grows text job given);
    }
