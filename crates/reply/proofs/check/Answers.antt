-- The tests come in 01's order; a reply that is read leaves its values in the buffer, and its clauses decide.
use Rattle.reply.proofs.LineLaws.{passed_on}
use Rattle.reply.proofs.CheckLaws.{h, not_unfit, is_45, is_refused, is_accepted_lem, is_65}
use Rattle.reply.proofs.check.Goals as goal

pub returns-in_err-fit : goal.returns-in_err-fit
returns-in_err-fit c =
    let (unfit, refusal) = c.in_err-fit.ensures in
    rw (passed_on _ _ c.from_residual.ensures, refusal) (is_45 c.args.j c.args.reply.now c.args.work.now unfit)

pub returns-in_err-read_reply : goal.returns-in_err-read_reply
returns-in_err-read_reply c =
    let a = c.args in
    let f = c.in_ok-fit in
    let t = c.header_of-header in
    let r = c.read_reply in
    rw (passed_on _ _ c.from_residual-in_err-read_reply.ensures)
    (is_refused a.j a.reply.now a.work.now f.fit f.ensures t.result t.ensures c.if-work-header.false c.if-reply-gt-MOST_BYTES.false
    r.result r.new.work r.ensures _ c.in_err-read_reply.was)

pub returns-in_err-clause : goal.returns-in_err-clause
returns-in_err-clause c =
    let a = c.args in
    let f = c.in_ok-fit in
    let t = c.header_of-header in
    let fits = h a.j a.reply.now a.work.now f.fit f.ensures t.result t.ensures in
    absurd (not_unfit a.j fits c.read_reply.new.work c.false_clause.result c.false_clause.ensures _ c.in_err-clause.was)

pub returns-in-Some : goal.returns-in-Some
returns-in-Some c =
    let a = c.args in
    let f = c.in_ok-fit in
    let t = c.header_of-header in
    let r = c.read_reply in
    rw c.at.ensures
    (is_65 a.j a.reply.now a.work.now f.fit f.ensures t.result t.ensures c.if-work-header.false c.if-reply-gt-MOST_BYTES.false
    r.result r.new.work r.ensures _ c.in_ok-read_reply.was _ c.false_clause.ensures _ c.in_ok-clause.was _ c.in-Some.is)

pub returns-in-None : goal.returns-in-None
returns-in-None c =
    let a = c.args in
    let f = c.in_ok-fit in
    let t = c.header_of-header in
    let r = c.read_reply in
    is_accepted_lem a.j a.reply.now a.work.now f.fit f.ensures t.result t.ensures c.if-work-header.false c.if-reply-gt-MOST_BYTES.false
    r.result r.new.work r.ensures _ c.in_ok-read_reply.was _ c.false_clause.ensures _ c.in_ok-clause.was c.in-None.is
