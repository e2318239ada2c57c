-- Within the limits the run has a line for each time; beyond them it has none.
use mathlib.Core.Logic.{inl, inr}
use Rattle.std.proofs.Common.{rules, ◌+◌, ◌*◌}
use Rattle.text.proofs.GroupLaws.{long_bound, many_variables, within_limits}
use Rattle.text.proofs.TextsLaws.{texts_none}
use Rattle.job.specs.Table.{n}
use Rattle.text.specs.RunText.{run_line}
use Rattle.text.proofs.run_text.Goals as goal

pub returns-then-j-gt-BOUND : goal.returns-then-j-gt-BOUND
returns-then-j-gt-BOUND c =
    let a = c.args in
    elim c.then-j-gt-BOUND.either [
      | inl h ↦ rw (long_bound a.j h) (texts_none (run_line a.j a.run.now) a.out.now)
      | inr h ↦ rw (many_variables a.j h.1) (texts_none (run_line a.j a.run.now) a.out.now)
    ]

pub returns : goal.returns
returns c =
    let a = c.args in
    rw (within_limits a.j c.if-j-gt-BOUND.false c.if-j-gt-STEPS.false)
    (c.put_texts.ensures.value (30 + n a.j.program * 26 + 2 + 1) (run_line a.j a.run.now) (search rules))
