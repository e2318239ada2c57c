-- The line comes to what it comes to, and the lines behind it are what the reader has left.
use Rattle.std.proofs.Common.{◌≡◌, Ok, sym, ap, ◌∙◌, rules}
use Rattle.job.specs.declared.refusal.Refusal.{Refusal}
use Rattle.job.specs.Faults.{number_of, refusal_at}
use Rattle.reply.specs.Lines.{halted}
use Rattle.reply.proofs.LineLaws.{values_fault, values_last, values_closed, values_more, mapped_ok, mapped_err, passed_on}
use Rattle.reply.proofs.read_values.Goals as goal

pub returns-in_err-progress : goal.returns-in_err-progress
returns-in_err-progress c =
    let l = c.loop-progress.invariant in
    let e = c.next_line-line.ensures in
    let r = c.read_value_line in
    let (f, (is, post)) = mapped_err _ _ _ c.map_err.ensures.cases _ c.in_err-progress.was in
    let line = values_fault _ _ _ _ _ _ e.lines e.line _ _ l.long _ _ r.ensures f is in
    let placed : c.in_err-progress.field-0.0 ≡ refusal_at f c.next_line-line.result.number = search (rules, post) in
    let at_line = placed ∙ ap (refusal_at f) e.number in
    rw (passed_on _ _ c.from_residual.ensures)
    (ap (λ (x : Refusal). halted (number_of x.fault) x.place r.new.work) at_line ∙ line ∙ sym l.left)

pub returns-then-not-line : goal.returns-then-not-line
returns-then-not-line c =
    let l = c.loop-progress.invariant in
    let e = c.next_line-line.ensures in
    let r = c.read_value_line in
    let is = mapped_ok _ _ _ c.map_err.ensures.cases _ c.in_ok-progress.was in
    let line = values_last _ _ _ _ _ _ e.lines e.line _ _ l.long _ _ r.ensures c.if-not-line.true c.in_ok-progress.progress is in
    rw (c.at.ensures, e.number) (line ∙ sym l.left)

pub returns-in_default : goal.returns-in_default
returns-in_default c =
    let l = c.loop-progress.invariant in
    let e = c.next_line-line.ensures in
    let r = c.read_value_line in
    let is_closed = mapped_ok _ _ _ c.map_err.ensures.cases _ c.in_ok-progress.was ∙ ap Ok c.in_default.is in
    values_closed _ _ _ _ _ _ e.lines e.line _ _ l.long _ _ r.ensures c.if-not-line.false is_closed ∙ sym l.left

pub loop-progress-preserved : goal.loop-progress-preserved
loop-progress-preserved c =
    let l = c.loop-progress.invariant in
    let e = c.next_line-line.ensures in
    let r = c.read_value_line in
    let is_more = mapped_ok _ _ _ c.map_err.ensures.cases _ c.in_ok-progress.was ∙ ap Ok c.in-More.is in
    let line = values_more _ _ _ _ _ _ e.lines e.line _ _ l.long _ _ r.ensures c.if-not-line.false is_more in
    record { same = e.same ∙ l.same; long = r.auto.work ∙ l.long; left = l.left ∙ line }
