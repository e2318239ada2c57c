-- The reader's refusal is passed on; an accepted text is short and its table fit.
use Rattle.std.proofs.Common.{refl, sym, ap, ◌∙◌, ◌++◌, length, true≢false}
use Rattle.totals.specs.declared.Header.{Header}
use Rattle.job.specs.declared.Job.{Job}
use Rattle.job.specs.Clauses.{clauses}
use Rattle.text.specs.Comments.{comments}
use Rattle.text.specs.Lines.{header}
use Rattle.reply.proofs.LineLaws.{passed_on}
use Rattle.outputs.specs.Dimacs.{before}
use Rattle.outputs.proofs.PrintingLaws.{put_as}
use Rattle.outputs.proofs.ReadLaws.{read_fits, read_short, opened_before, opened_refused, following_job, following_none}
use Rattle.outputs.proofs.dimacs.put_opening.Goals as goal

pub returns-in_err-job : goal.returns-in_err-job
returns-in_err-job c =
    let text = c.args.text.now in
    let e = sym c.in_err-job.ensures.reading in
    rw (passed_on _ _ c.from_residual.ensures) ((opened_refused text _ e, refl), following_none text _ e)

pub returns-in_err-fit : goal.returns-in_err-fit
returns-in_err-fit c =
    let fits = read_fits c.args.text.now _ (sym c.in_ok-job.ensures.reading) in
    absurd (true≢false (sym fits ∙ c.in_err-fit.ensures.0))

pub put_before-length-requires : goal.put_before-length-requires
put_before-length-requires c = (read_short c.args.text.now _ (sym c.in_ok-job.ensures.reading), c.requires)

pub returns : goal.returns
returns c =
    let text = c.args.text.now in
    let e = sym c.in_ok-job.ensures.reading in
    let same = c.in_ok-fit.ensures in
    let is = c.header_of-header.ensures in
    let opened = ap (λ (h : Header). comments text ++ header h.variables h.clauses) is ∙ ap (before text) same
    ∙ opened_before text _ e in
    let counted = ap (λ (h : Header). h.clauses) is ∙ ap (λ (J : Job). length (clauses J)) same in
    (put_as c.args.out.now c.put_before-length.ensures opened, following_job text _ e _ same counted)
