-- `fit::lemmas::lemmas_fit` stops at a lemma that fails.
use Rattle.std.proofs.Common.{sym}
use Rattle.lists.proofs.TestLaws.{all_fails}
use Rattle.job.specs.Limits.{max_lemmas}
use Rattle.job.specs.Fitness.{lemmas_fit}
use Rattle.fit.proofs.lemmas.lemmas_fit.Goals as goal

pub returns-then-not-lemma_fits : goal.returns-then-not-lemma_fits
unfolding lemmas_fit
returns-then-not-lemma_fits c = sym (all_fails _ c.loop-k.k max_lemmas c.loop-k-test.true (sym c.if-not-lemma_fits.ensures))
