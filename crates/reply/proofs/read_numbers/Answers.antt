-- The word says what it says, and the words behind it are what the reader has left.
use Rattle.std.proofs.Common.{Ok, length, sym, ap, ◌∙◌}
use Rattle.lists.specs.Pieces.{cut}
use Rattle.reply.specs.Lines.{numbers_in}
use Rattle.reply.specs.Said.{marks}
use Rattle.reply.specs.Answers.{part_of}
use Rattle.reply.proofs.LineLaws.{passed_on, is_false, is_true, last_word, bad_word, early_zero, next_word}
use Rattle.reply.proofs.read_numbers.Goals as goal

pub returns-in_err-progress : goal.returns-in_err-progress
returns-in_err-progress c =
    let l = c.loop-progress.invariant in
    let w = c.next_word-word.ensures in
    let n = length c.args.work.now in
    let bad = bad_word n _ l.long _ _ _ _ w.words _ w.token _ _ c.mark.ensures _ c.in_err-progress.was in
    let all = ap (λ s. numbers_in marks n c.args.work.now (cut 32 s)) (sym c.new-reader.ensures.all) ∙ l.left in
    rw (passed_on _ _ c.from_residual.ensures) (bad ∙ sym all)

pub returns-then-not-word : goal.returns-then-not-word
returns-then-not-word c =
    let l = c.loop-progress.invariant in
    let w = c.next_word-word.ensures in
    let n = length c.args.work.now in
    let last = last_word n _ l.long _ _ _ _ w.words _ w.token _ _ c.mark.ensures (is_false _ c.if-not-word.true) in
    let all = ap (λ s. numbers_in marks n c.args.work.now (cut 32 s)) (sym c.new-reader.ensures.all) ∙ l.left in
    ap (λ x. part_of x c.mark.new.work) (sym c.in_ok-progress.was) ∙ last ∙ sym all

pub returns-in_default : goal.returns-in_default
returns-in_default c =
    let l = c.loop-progress.invariant in
    let w = c.next_word-word.ensures in
    let n = length c.args.work.now in
    let is_closed = c.in_ok-progress.was ∙ ap Ok c.in_default.is in
    let early = early_zero n _ l.long _ _ _ _ w.words _ w.token _ _ c.mark.ensures (is_true _ c.if-not-word.false) is_closed in
    let all = ap (λ s. numbers_in marks n c.args.work.now (cut 32 s)) (sym c.new-reader.ensures.all) ∙ l.left in
    early ∙ sym all

pub loop-progress-preserved : goal.loop-progress-preserved
loop-progress-preserved c =
    let l = c.loop-progress.invariant in
    let w = c.next_word-word.ensures in
    let n = length c.args.work.now in
    let is_more = c.in_ok-progress.was ∙ ap Ok c.in-More.is in
    let next = next_word n _ l.long _ _ _ _ w.words _ w.token _ _ c.mark.ensures (is_true _ c.if-not-word.false) is_more in
    record { same = w.same ∙ l.same; long = c.mark.auto.work ∙ l.long; left = l.left ∙ next }
