-- A lemma fits by its length and then by its places.
use Rattle.std.proofs.Common.{rules}
use Rattle.lists.specs.Tests.{every}
use Rattle.job.specs.Fitness.{length_fits, places_fit, lemma_fits}
use Rattle.fit.proofs.lemmas.lemma_fits.Goals as goal

pub returns-then-length_fits : goal.returns-then-length_fits
unfolding lemma_fits length_fits places_fit every
returns-then-length_fits c = search rules

pub returns-else-length_fits : goal.returns-else-length_fits
unfolding lemma_fits length_fits places_fit every
returns-else-length_fits c = search rules
