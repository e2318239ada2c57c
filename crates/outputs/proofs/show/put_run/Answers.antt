-- Each refusal is passed on as it comes; the lines of the run have room.
use Rattle.std.proofs.Common.{refl, sym, ap, ◌∙◌, arith, true≢false}
use Rattle.totals.specs.declared.Header.{Header}
use Rattle.totals.proofs.AnswerLaws.{totals_fit, totals_unfit}
use Rattle.text.specs.Lines.{refused}
use Rattle.reply.proofs.LineLaws.{passed_on}
use Rattle.outputs.specs.Printing.{zeros}
use Rattle.outputs.proofs.PrintingLaws.{put_as}
use Rattle.outputs.proofs.ReadLaws.{read_fits, shown_reply, shown_refused}
use Rattle.outputs.proofs.ShowLaws.{run_refused, run_written, many_variables, long_reply, reply_accepted, reply_refused}
use Rattle.outputs.proofs.show.put_run.Goals as goal
use Rattle.outputs.proofs.show.put_run.Goals.{then-header-gt-MOST-via-then-header-gt-MOST}
use Rattle.outputs.proofs.show.put_run.Goals.{then-header-gt-MOST-via-else-header-gt-MOST+then-reply-gt-MOST}

pub returns-in_err-job : goal.returns-in_err-job
returns-in_err-job c =
    let a = c.args in
    rw (passed_on _ _ c.from_residual.ensures) (shown_refused a.job.now _ (sym c.in_err-job.ensures.reading) a.reply.now, refl)

pub returns-in_err-header : goal.returns-in_err-header
returns-in_err-header c =
    let fits = read_fits c.args.job.now _ (sym c.in_ok-job.ensures.reading) in
    let (unfit, _, _) = totals_unfit c.in_ok-job.job _ c.totals.ensures _ c.in_err-header.was in
    absurd (true≢false (sym fits ∙ unfit))

pub returns-then-header-gt-MOST : goal.returns-then-header-gt-MOST
returns-then-header-gt-MOST c =
    let a = c.args in
    let J = c.in_ok-job.job in
    let (_, is) = totals_fit J _ c.totals.ensures _ c.in_ok-header.was in
    let variables = ap (λ (h : Header). h.variables) is in
    let shown = shown_reply a.job.now J (sym c.in_ok-job.ensures.reading) a.reply.now in
    let line = ap refused c.at.ensures in
    elim c.then-header-gt-MOST.branch [
      | then-header-gt-MOST-via-then-header-gt-MOST w ↦
          (line ∙ many_variables J a.reply.now (omega (arith, w.if-header-gt-MOST.true, variables)) ∙ shown, refl)
      | then-header-gt-MOST-via-else-header-gt-MOST+then-reply-gt-MOST w ↦
          (line ∙ long_reply J a.reply.now (omega (arith, w.if-reply-gt-MOST.true)) ∙ shown, refl)
    ]

pub returns-in_err-check : goal.returns-in_err-check
unfolding zeros
returns-in_err-check c =
    let a = c.args in
    let J = c.in_ok-job.job in
    let (_, is) = totals_fit J _ c.totals.ensures _ c.in_ok-header.was in
    let variables = ap (λ (h : Header). h.variables) is in
    let shown = shown_reply a.job.now J (sym c.in_ok-job.ensures.reading) a.reply.now in
    let refuses = reply_refused J a.reply.now (omega (arith, variables)) (omega arith) _ _ c.check.ensures _ c.in_err-check.was in
    rw (passed_on _ _ c.from_residual-in_err-check.ensures) (refuses ∙ shown, refl)

pub returns-in_err-read_off : goal.returns-in_err-read_off
unfolding zeros
returns-in_err-read_off c =
    let a = c.args in
    let J = c.in_ok-job.job in
    let (fits, is) = totals_fit J _ c.totals.ensures _ c.in_ok-header.was in
    let variables = ap (λ (h : Header). h.variables) is in
    let shown = shown_reply a.job.now J (sym c.in_ok-job.ensures.reading) a.reply.now in
    let accepted = reply_accepted J a.reply.now (omega (arith, variables)) (omega arith) _ _ c.check.ensures c.in_ok-check.was in
    let refuses = run_refused J fits _ _ c.read_off.ensures.0 _ c.in_err-read_off.was in
    rw (passed_on _ _ c.from_residual-in_err-read_off.ensures) (refuses ∙ accepted ∙ shown, refl)

pub returns : goal.returns
unfolding zeros
returns c =
    let a = c.args in
    let J = c.in_ok-job.job in
    let (fits, is) = totals_fit J _ c.totals.ensures _ c.in_ok-header.was in
    let variables = ap (λ (h : Header). h.variables) is in
    let shown = shown_reply a.job.now J (sym c.in_ok-job.ensures.reading) a.reply.now in
    let accepted = reply_accepted J a.reply.now (omega (arith, variables)) (omega arith) _ _ c.check.ensures c.in_ok-check.was in
    let read = c.read_off in
    let written = run_written J fits _ read.result read.ensures.0 a.out.now _ _ _ c.in_ok-read_off.was read.ensures.1 c.requires
    c.run_text-lines.ensures in
    put_as a.out.now written (accepted ∙ shown)
