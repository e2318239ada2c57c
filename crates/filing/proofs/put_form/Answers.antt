-- The lines kept, `lemmas` and the lemma lines, one behind the other, are the form.
use Rattle.std.proofs.Common.{ap, ◌∙◌}
use Rattle.filing.specs.Rows.{clauses}
use Rattle.filing.proofs.PartLaws.{going_last}
use Rattle.filing.proofs.FormLaws.{kept_room, word_written, lines_room}
use Rattle.filing.proofs.put_form.Goals as goal

pub put_kept-requires : goal.put_kept-requires
put_kept-requires c = kept_room c.args.text.now c.args.job.now c.args.page.now c.requires.room

pub put_lemmas-requires : goal.put_lemmas-requires
put_lemmas-requires c =
    let a = c.args in
    let rows = ap clauses c.deref.ensures.0 ∙ c.file_rows.ensures in
    rw rows (lines_room a.text.now a.job.now a.page.now c.requires.room c.put_kept.ensures c.part.ensures)

pub returns : goal.returns
returns c =
    let a = c.args in
    let rows = ap clauses c.deref.ensures.0 ∙ c.file_rows.ensures in
    going_last (word_written a.text.now a.job.now a.page.now c.requires.room c.put_kept.ensures c.part.ensures)
    (rw rows at c.put_lemmas.ensures)
