-- In a buffer of zeros the marks hear what the literals of the definition hear; then marks become values, or zeros again.
use Rattle.std.proofs.Common.{sym, ◌∙◌}
use Rattle.reply.proofs.ReplyLaws.{a_fault, a_gap, all_said}
use Rattle.reply.proofs.read_reply.Goals as goal

pub returns-in-Err : goal.returns-in-Err
returns-in-Err c =
    let z = c.clear in
    let h = c.hear in
    a_fault c.args.reply.now c.args.work.now z.new.work h.new.work z.ensures z.auto.work h.auto.work h.result h.ensures
    c.in-Err.refusal c.in-Err.is _ c.clear-in-Err.ensures

pub returns-in-Some : goal.returns-in-Some
returns-in-Some c =
    let z = c.clear in
    let h = c.hear in
    let x = c.settle in
    rw c.at.ensures
    (a_gap c.args.reply.now c.args.work.now z.new.work h.new.work z.ensures z.auto.work h.auto.work h.result h.ensures
    _ c.in_default.is x.new.work x.ensures.buffer x.auto.work c.in-Some.place c.in-Some.ensures.found _ c.clear-in-Some.ensures)

pub returns : goal.returns
returns c =
    let z = c.clear in
    let h = c.hear in
    let x = c.settle in
    all_said c.args.reply.now c.args.work.now z.new.work h.new.work z.ensures z.auto.work h.auto.work h.result h.ensures
    _ c.in_default.is x.new.work x.ensures.buffer x.auto.work (sym c.in_default-settle.is ∙ x.ensures.found)
