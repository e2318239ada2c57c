-- A fit table has sizes of which the product fits.
use Rattle.std.proofs.Common.{ap, arith, ◌+◌, ◌*◌}
use Rattle.job.proofs.FitnessLaws.{fit_sizes}
use Rattle.readoff.proofs.SizeLaws.{groups_most}
use Rattle.readoff.proofs.run_length.Goals as goal

pub overflow_add-result : goal.overflow_add-result
overflow_add-result c = let fit = c.args.fit.now in omega (arith, (fit_sizes fit.job fit.fits).variables)

pub overflow_mul-result : goal.overflow_mul-result
overflow_mul-result c =
    let fit = c.args.fit.now in
    let e = ap (λ k. k * (fit.job.program.variables + 3)) c.times.ensures in
    omega (arith, groups_most fit.job.program (fit_sizes fit.job fit.fits))
