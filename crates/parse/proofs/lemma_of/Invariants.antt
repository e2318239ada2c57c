-- `lemma_of` reads word by word: what is left from here gives the answer of the whole.
use mathlib.Core.Path.{◌≡◌}
use Prim.Native.Nat.{◌≤◌, ◌<◌, ◌-◌}
use lib.ListN.{length, drop}
use Rattle.job.specs.Limits.{max_steps, max_lemmas, max_names}
use Rattle.parse.specs.Lemmas.{lemma, words}
use Rattle.parse.proofs.lemma_of.Given as goal

abbrev pub invariant-loop-at : goal.invariant-loop-at
invariant-loop-at l =
    (l.at ≤ length l.s) × (l.k ≤ max_names) × (l.job.lemmas < max_lemmas) × (l.job.program.steps ≤ max_steps)
    × (l.job.program.variables ≤ max_steps)
    × (lemma l.initial.job l.n 0 (words l.s) ≡ lemma l.job l.n l.k (words (drop l.at l.s)))

abbrev pub decreases-loop-at : goal.decreases-loop-at
decreases-loop-at l = length l.s - l.at
