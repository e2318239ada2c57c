-- Laws of the draft: its counts stay in the limits.
use mathlib.Core.Path.{◌≡◌, refl}
use mathlib.Core.Bool.{Bool, true, false, cond}
use mathlib.Core.List.{List}
use Rattle.std.specs.Prelude.{Option, Some, None}
use Prim.Native.Nat.{ℕ, ◌+◌, ◌≤◌, ◌<◌}
use native.Mathlib.Omega.{arith}
use lib.Seq.{slice}
use Rattle.job.specs.Limits.{max_steps}
use Rattle.job.specs.Fitness.{has_variable}
use Rattle.scan.specs.Names.{lookup}
use Rattle.lines.specs.StepLine.{code_of}
use Rattle.lines.specs.declared.Step.{Step}
use Rattle.program.specs.Draft.{blank, mention_at, mention, enter, add_step}
use Rattle.program.specs.declared.Draft.{Draft}

-- no more variables than steps, and no more steps than there may be
abbrev pub Within : Draft → Type 0
Within d = (d.program.variables ≤ d.program.steps) × (d.program.steps ≤ max_steps)

pub blank_within : (r word : ℕ) → Within (blank r word)
unfolding blank
blank_within r word = (omega arith, omega arith)

pub mention_steps : (d : Draft) (w : List ℕ) (f : Option ℕ) → (mention_at d w f).program.steps ≡ d.program.steps
unfolding mention_at
mention_steps d w (Some i) = refl
mention_steps d w None = refl

mention_variables : (d : Draft) (w : List ℕ) (f : Option ℕ) → (mention_at d w f).program.variables ≤ d.program.variables + 1
unfolding mention_at
mention_variables d w (Some i) = omega arith
mention_variables d w None = omega arith

pub added : (d : Draft) (s : List ℕ) (p : Step) (n : ℕ) → Within d → d.program.steps < max_steps → Within (add_step d s p n)
unfolding add_step enter
added d s p n h k = go (has_variable (code_of p.kind))
  where
    go : (b : Bool) → Within (enter (cond b (mention d (slice p.variable p.equals s)) d) s p n)
    go true =
        let w = slice p.variable p.equals s in
        let f = lookup d.names d.program.variables w in
        let steps = mention_steps d w f in
        let variables = mention_variables d w f in
        (omega (arith, steps, variables), omega (arith, steps))
    go false = (omega arith, omega arith)
