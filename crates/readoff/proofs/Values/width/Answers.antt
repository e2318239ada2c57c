-- A fit table has few steps and variables.
use Rattle.std.proofs.Common.{arith}
use Rattle.job.proofs.FitnessLaws.{fit_sizes}
use Rattle.readoff.proofs.Values.width.Goals as goal

pub overflow_add-result : goal.overflow_add-result
overflow_add-result c =
    let fit = c.args.self.now.fit.now in
    let z = fit_sizes fit.job fit.fits in
    omega (arith, z.steps, z.variables)

pub returns-clause-most : goal.returns-clause-most
returns-clause-most c =
    let fit = c.args.self.now.fit.now in
    let z = fit_sizes fit.job fit.fits in
    omega (arith, z.steps, z.variables)
