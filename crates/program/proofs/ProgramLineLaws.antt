-- Laws of a program line: the draft that the text goes on with, and what holds of it.
use mathlib.Core.Path.{◌≡◌, refl}
use mathlib.Core.Bool.{Bool, true, false, cond}
use mathlib.Core.List.{List}
use Prim.Native.Nat.{ℕ, ◌<◌}
use Rattle.std.specs.Prelude.{Option, Some, None, Result, Ok, Err}
use borrow.Author.Tests.{leb-false}
use lib.Dec.{leb}
use Rattle.job.specs.Limits.{max_steps}
use Rattle.job.specs.declared.refusal.Fault.{Fault}
use Rattle.scan.specs.Lines.{Row}
use Rattle.fields.specs.Fields.{whole_line}
use Rattle.job.specs.declared.refusal.Fault.TheVariants.{ManySteps}
use Rattle.lines.specs.StepLine.{step_line}
use Rattle.lines.specs.declared.Step.{Step}
use Rattle.program.specs.ProgramLine.{is_lemmas, is_comment, stepped, program_line, whole, line_of, draft_of}
use Rattle.program.specs.declared.Draft.{Draft}
use Rattle.program.proofs.DraftLaws.{Within, added}

-- what holds of every way out of a line
pub line_all : (P : Result (Option Draft) Fault → Type 0) (d : Draft) (l : Row) (n : ℕ)
    → ((fault : Fault) → P (Err fault)) → P (Ok None) → P (Ok (Some d))
    → (leb max_steps d.program.steps ≡ false
    → P (stepped d l.bytes n (step_line d.labels d.program.steps l.bytes (record { line = n; column = 0 }))))
    → P (line_of d l n)
unfolding program_line whole
line_all P d l n refused reached comment step =
    go (whole_line l) (is_lemmas l.bytes) (is_comment l.bytes) (leb max_steps d.program.steps) _ refused reached comment step
  where
    go : (r : Result (Unit {0}) Fault) (a b c : Bool) (s : Result (Option Draft) Fault)
        → ((fault : Fault) → P (Err fault)) → P (Ok None) → P (Ok (Some d)) → (c ≡ false → P s)
        → P (whole r (cond a (Ok None) (cond b (Ok (Some d)) (cond c (Err ManySteps) s))))
    go (Err fault) a b c s h i j k = h fault
    go (Ok _) true b c s h i j k = i
    go (Ok _) false true c s h i j k = j
    go (Ok _) false false true s h i j k = h ManySteps
    go (Ok _) false false false s h i j k = k refl

stepped_kept : (d : Draft) (s : List ℕ) (n : ℕ) (l : Result Step Fault) → Within d → d.program.steps < max_steps
    → Within (draft_of (stepped d s n l) d)
unfolding stepped
stepped_kept d s n (Ok p) h k = added d s p n h k
stepped_kept d s n (Err fault) h k = h

pub line_kept : (d : Draft) (l : Row) (n : ℕ) → Within d → Within (draft_of (line_of d l n) d)
line_kept d l n h =
    line_all (λ r. Within (draft_of r d)) d l n (λ _. h) h h (λ e. stepped_kept d l.bytes n _ h (leb-false _ _ e))
