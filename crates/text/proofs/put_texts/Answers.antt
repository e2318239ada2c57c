-- The texts before number count stand in the buffer; the next one goes behind them, or does not fit.
use Rattle.std.proofs.Common.{◌≡◌, arith, rules}
use Rattle.put.proofs.PutLaws.{kept}
use Rattle.text.proofs.TextsLaws.{begun_none, begun_more, begun_short, begun_room, begun_stop, begun_all}
use Rattle.text.proofs.put_texts.Goals as goal

pub loop-count-init : goal.loop-count-init
loop-count-init g c most text h = (begun_none text c.new-page.result c.new-page.ensures.end, omega (arith, c.new-page.ensures.end))

pub loop-count-preserved : goal.loop-count-preserved
loop-count-preserved g c most text h =
    let o = c.loop-count in
    let (b, short) = o.invariant most text h in
    let p = h _ _ _ _ c.loop-count-test.true c.put.ensures in
    let start = c.new-page.ensures.end in (
      begun_more text c.new-page.result start o.count b p c.if-not-put.false,
      begun_short text c.new-page.result start o.count b p c.if-not-put.false short,
    )

pub returns-then-not-put-clause-value : goal.returns-then-not-put-clause-value
returns-then-not-put-clause-value g c most text h =
    let o = c.loop-count in
    let b = (o.invariant most text h).0 in
    let p = h _ _ _ _ c.loop-count-test.true c.put.ensures in
    let r = begun_stop text c.new-page.result c.new-page.ensures.end o.count b p c.args.n c.loop-count-test.true c.if-not-put.true in
    let (counted, written) = rw c.new-page.ensures.out at r in
    (counted, kept written (search (rules, p.adds.same_reference, b.put.same_reference, c.new-page.ensures.same_reference)))

pub returns-then-not-put-clause-all : goal.returns-then-not-put-clause-all
returns-then-not-put-clause-all g c most text h room =
    let o = c.loop-count in
    let (b, short) = o.invariant most text h in
    let p = h _ _ _ _ c.loop-count-test.true c.put.ensures in
    let start = c.new-page.ensures in
    absurd (begun_room text c.new-page.result start.end o.count b p c.if-not-put.true short c.args.n c.loop-count-test.true
    (rw start.out room))

pub returns-clause-value : goal.returns-clause-value
returns-clause-value g c most text h =
    let o = c.loop-count in
    let b = (o.invariant most text h).0 in
    let e : o.count ≡ c.args.n = omega arith in
    let r = begun_all text c.new-page.result c.new-page.ensures.end o.count b c.args.n e in
    let (counted, written) = rw (e, c.new-page.ensures.out) at r in
    (counted, kept written (search (rules, b.put.same_reference, c.new-page.ensures.same_reference)))
