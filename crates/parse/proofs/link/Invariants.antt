-- `link` goes step by step: the steps passed are linked.
use Rattle.std.specs.Prelude.{Ok}
use Rattle.parse.specs.Labels.{link}
use mathlib.Core.Path.{◌≡◌}
use Rattle.parse.proofs.link.Given as goal

abbrev pub invariant-loop-k : goal.invariant-loop-k
invariant-loop-k l = link l.draft l.k ≡ Ok l.program
