-- `fit::FitJob::try_from`: what is known of a fit table.
use Rattle.std.proofs.Common.{◌≡◌, true, sym}
use Rattle.job.specs.Fitness.{fit}
use Rattle.job.proofs.FitnessLaws.{fit_sizes, fit_lemmas}
use Rattle.fit.proofs.FitJobTryFromJob.try_from.Goals as goal

pub invariant_of-result : goal.invariant_of-result
invariant_of-result c = let j = c.args.job in
    let f : fit j ≡ true = sym c.if-fits.ensures in
    record { fits = f; sizes = fit_sizes j f; few_lemmas = fit_lemmas j f }
