-- The loop turns one mark more into a value; a mark that is missing ends it.
use Rattle.std.proofs.Common.{refl, sym, ap, ◌∙◌, length, arith}
use Rattle.lists.specs.Places.{found}
use Rattle.lists.proofs.PlaceLaws.{first_zero, found_some}
use Rattle.lists.proofs.WritingLaws.{front_none}
use Rattle.reply.proofs.BufferLaws.{now_false, now_true, none_missing, one_missing}
use Rattle.reply.specs.Answers.{cleaned}
use Rattle.reply.proofs.settle.Goals as goal
use Rattle.reply.proofs.settle.Goals.{then-work-i-ne1, else-work-i-ne1}

pub loop-i-init : goal.loop-i-init
loop-i-init c = record { turned = front_none _ c.args.work.now; some = first_zero _; long = refl }

pub returns-then-work-i-eq0-clause-found : goal.returns-then-work-i-eq0-clause-found
returns-then-work-i-eq0-clause-found c =
    let w = c.args.work.now in
    let l = c.loop-i in
    let i = one_missing w l.work l.i (omega arith) l.invariant.turned _ c.loop-i-test.true l.invariant.some c.if-work-i-eq0.true in
    sym (ap (found (length w)) (sym i) ∙ found_some (length w) l.i c.loop-i-test.true)

pub returns-then-work-i-eq0-clause-buffer : goal.returns-then-work-i-eq0-clause-buffer
returns-then-work-i-eq0-clause-buffer c =
    let w = c.args.work.now in
    let l = c.loop-i in
    let i = one_missing w l.work l.i (omega arith) l.invariant.turned _ c.loop-i-test.true l.invariant.some c.if-work-i-eq0.true in
    l.invariant.turned ∙ ap (λ n. cleaned n w) i

pub loop-i-preserved : goal.loop-i-preserved
loop-i-preserved c =
    let w = c.args.work.now in
    let l = c.loop-i in
    let j = c.if-work-i-ne1 in
    record {
      turned = elim j.branch [
        | then-work-i-ne1 x ↦ now_false w l.work l.i (omega arith) l.invariant.turned x.if-work-i-ne1.true j.work x.work-is
        | else-work-i-ne1 x ↦ now_true w l.work l.i (omega arith) l.invariant.turned x.if-work-i-ne1.false j.work x.work-is
      ];
      some = none_missing w l.work l.i (omega arith) l.invariant.turned l.invariant.some c.if-work-i-eq0.false;
      long = j.auto.work ∙ l.invariant.long;
    }
