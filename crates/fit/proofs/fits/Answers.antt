-- `fit::fits`: the sizes of a fit program bound the sum of its items.
use Rattle.std.proofs.Common.{sym, arith}
use Rattle.job.proofs.FitnessLaws.{program_sizes}
use Rattle.fit.proofs.fits.Goals as goal

pub overflow_add-p : goal.overflow_add-p
overflow_add-p c = let z = program_sizes _ (sym c.if-not-program_fits.ensures) in omega (arith, z.steps, z.variables)
