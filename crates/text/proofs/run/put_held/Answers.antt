-- The name goes on while its bytes are not 0, up to four, for which there is room.
use Rattle.std.proofs.Common.{refl, arith, ap, ◌∙◌, List, ℕ}
use Rattle.lists.specs.Writing.{write}
use Rattle.lists.proofs.PlaceLaws.{first_zero}
use Rattle.lists.proofs.WritingLaws.{row_begins, row_grows}
use Rattle.put.proofs.NameLaws.{letter, name_short, name_ends, name_full, name_goes_on, name_is}
use Rattle.text.proofs.run.put_held.Goals as goal

pub loop-i-init : goal.loop-i-init
loop-i-init c = (refl, first_zero _, row_begins c.args.page.now.out.now c.args.page.now.end (letter c.args.names.now c.args.k))

pub loop-i-preserved : goal.loop-i-preserved
loop-i-preserved c =
    let a = c.args in
    let page = a.page.now in
    let o = c.loop-i in
    let (same, goes, written) = o.invariant in
    let e = c.get_or-b.ensures in
    let (next, _) = name_goes_on a.names.now a.k o.i c.get_or-b.result goes e c.if-b-eq0.false in
    let grows = row_grows page.out.now page.end o.i (letter a.names.now a.k) c.get_or-b.result e (omega (arith, c.requires.1)) in
    (same, next, rw written grows)

pub returns-then-b-eq0 : goal.returns-then-b-eq0
returns-then-b-eq0 c =
    let a = c.args in
    let page = a.page.now in
    let o = c.loop-i in
    let n = name_ends a.names.now a.k o.i c.get_or-b.result (omega arith) o.invariant.1 c.get_or-b.ensures c.if-b-eq0.true in
    let whole = o.invariant.2 ∙ ap (λ (p : List ℕ). write page.out.now page.end p) (name_is a.names.now a.k o.i n) in
    record { same_reference = o.invariant.0; short = name_short a.names.now a.k; end = omega (arith, n); out = whole }

pub returns : goal.returns
returns c =
    let a = c.args in
    let page = a.page.now in
    let o = c.loop-i in
    let n = name_full a.names.now a.k o.i (omega arith) o.invariant.1 in
    let whole = o.invariant.2 ∙ ap (λ (p : List ℕ). write page.out.now page.end p) (name_is a.names.now a.k o.i n) in
    record { same_reference = o.invariant.0; short = name_short a.names.now a.k; end = omega (arith, n); out = whole }
