-- The name goes on while its bytes are not 0, up to four; such a byte stands in the table.
use Rattle.std.proofs.Common.{◌≡◌, arith}
use Rattle.lists.proofs.PlaceLaws.{first_zero}
use Rattle.put.proofs.NameLaws.{name_ends, name_full, name_goes_on}
use Rattle.put.proofs.name_length.Goals as goal

pub loop-i-init : goal.loop-i-init
loop-i-init c = (first_zero _, omega arith)

pub returns-then-get_or-eq0 : goal.returns-then-get_or-eq0
returns-then-get_or-eq0 c =
    let a = c.args in
    let o = c.loop-i in
    (name_ends a.names.now a.k o.i c.get_or.result (omega arith) o.invariant.0 c.get_or.ensures c.if-get_or-eq0.true, o.invariant.1)

pub loop-i-preserved : goal.loop-i-preserved
loop-i-preserved c =
    let o = c.loop-i in
    let (goes, inside) = name_goes_on c.args.names.now c.args.k o.i c.get_or.result o.invariant.0 c.get_or.ensures c.if-get_or-eq0.false in
    (goes, omega arith)

pub returns : goal.returns
returns c =
    let o = c.loop-i in
    let e : o.i ≡ 4 = omega arith in
    let n = name_full c.args.names.now c.args.k o.i e o.invariant.0 in
    (omega (arith, e, n), rw e at o.invariant.1)
