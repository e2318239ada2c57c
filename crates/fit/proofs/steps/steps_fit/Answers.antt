-- `fit::steps::steps_fit` has passed every step below `c`, and `seen` are the variables that they mention.
use Rattle.std.proofs.Common.{rules, ◌≡◌, ◌∙◌, ap, arith}
use Rattle.job.specs.Limits.{max_steps}
use Rattle.job.specs.Fitness.{mentioned}
use Rattle.fit.proofs.StepLaws.{mentioned_next, steps_stop, steps_end}
use Rattle.fit.proofs.steps.steps_fit.Goals as goal

pub returns-then-not-fits : goal.returns-then-not-fits
returns-then-not-fits c = steps_stop c.args.program.now c.loop-c.c c.loop-c-test.true c.if-not-fits.ensures

pub loop-c-preserved : goal.loop-c-preserved
loop-c-preserved c = let P = c.args.program.now in
    let l = c.loop-c in
    (c.max-seen.ensures ∙ rw c.variable.ensures (mentioned_next P l.c l.seen l.invariant.0), search rules)

pub returns : goal.returns
returns c = let P = c.args.program.now in
    let l = c.loop-c in
    let e : l.c ≡ max_steps = omega arith in
    rw c.from.ensures (steps_end P l.seen (l.invariant.0 ∙ ap (mentioned P) e) (λ c h. l.invariant.1 c (omega arith)))
