-- `fit::lemmas::places_fit` stops at a place that fails.
use Rattle.std.proofs.Common.{rules, ◌≡◌, false, sym, ◌+◌, ◌*◌, get_or, pos}
use Rattle.lists.proofs.TestLaws.{all_fails}
use Rattle.job.specs.Limits.{max_names}
use Rattle.job.specs.Fitness.{place_fits}
use Rattle.fit.proofs.lemmas.places_fit.Goals as goal

pub returns-then-not-place_fits : goal.returns-then-not-place_fits
returns-then-not-place_fits c = let a = c.args in
    let i = c.loop-i.i in
    let fails : place_fits a.w a.n i (get_or a.job.now.items (a.k * max_names + i) (pos 0)) ≡ false = search rules in
    sym (all_fails _ i max_names c.loop-i-test.true fails)
