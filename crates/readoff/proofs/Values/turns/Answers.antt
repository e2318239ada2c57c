-- The turns stand behind the items.
use Rattle.std.proofs.Common.{◌≡◌, suc, ◌*◌, arith}
use Rattle.job.specs.Table.{w}
use Rattle.job.proofs.FitnessLaws.{fit_sizes}
use Rattle.readoff.proofs.SizeLaws.{items_below, items_most}
use Rattle.readoff.proofs.Values.turns.Goals as goal

pub overflow_mul-result : goal.overflow_mul-result
overflow_mul-result c =
    let fit = c.args.self.now.fit.now in
    let p = fit.job.program in
    let e : c.times.result * c.width.result ≡ suc p.bound * w p = rw (c.times.ensures, c.width.ensures.width) in
    omega (arith, items_most p (fit_sizes fit.job fit.fits))

pub returns-clause-within : goal.returns-clause-within
returns-clause-within c =
    let p = c.args.self.now.fit.now.job.program in
    let e : c.times.result * c.width.result ≡ suc p.bound * w p = rw (c.times.ensures, c.width.ensures.width) in
    omega (arith, items_below p)
