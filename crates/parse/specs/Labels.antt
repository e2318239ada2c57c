-- What is checked at `lemmas` (document 01, 'The job text'): '99, 98, then 30 or 32 step by step (L before M), then 55'.
use Rattle.std.specs.Prelude.{ℕ, zero, suc, ◌+◌, ◌*◌, cond, List, eqb, ltb, set, Option, Some, None, Result, Ok, Err}
use Rattle.std.proofs.Math.Seq.{slice}
use Rattle.lists.specs.Rows.{num}
use Rattle.job.specs.Table.{first_of}
use Rattle.job.specs.Fitness.{has_other, both_critical}
use Rattle.job.specs.declared.Job.{Job}
use Rattle.job.specs.declared.Program.{Program}
use Rattle.job.specs.declared.refusal.Fault.{Fault}
use Rattle.job.specs.declared.refusal.Fault.TheVariants.{LabelUnknown, LabelOther, BothCritical, NoStepOfB, NoStepOfA}
use Rattle.job.specs.declared.refusal.Refusal.{Refusal}
use Rattle.scan.specs.Names.{lookup}
use Rattle.program.specs.declared.Draft.{Draft}
use Rattle.parse.specs.Answers.{refuse, then, without_lemmas}

-- ---- one label

-- 30 'L or M unknown', 32 'L or M of the other process'; else a step, counted from 1
unfoldable pub target_of : List ℕ → ℕ → Option ℕ → Result ℕ Fault
target_of process k None = Err LabelUnknown
target_of process k (Some i) = cond (eqb (num process i) (num process k)) (Ok (i + 1)) (Err LabelOther)

-- the label of step k among these
unfoldable pub aim : Draft → List ℕ → ℕ → Result ℕ Fault
aim d labels k =
    target_of d.program.process k (lookup d.labels d.program.steps (slice (k * 4) (k * 4 + 4) labels))

-- ---- the labels of a step

abbrev pub with_to : Program → ℕ → ℕ → Program
with_to P k i = record P { to = set P.to k i }

abbrev pub with_other : Program → ℕ → ℕ → Program
with_other P k i = record P { other = set P.other k i }

-- the label is a step, which is entered, or the step's line is refused
unfoldable pub entered : (ℕ → Program) → ℕ → Result ℕ Fault → Result Program Refusal
entered with place (Ok i) = Ok (with i)
entered with place (Err fault) = refuse fault place

-- 'L before M', and M of an if only
unfoldable pub link_step : Draft → ℕ → Program → Result Program Refusal
link_step d k P =
    then (entered (with_to P k) (num d.line k) (aim d d.to k)) λ Q.
    cond (has_other (num d.program.kind k)) (entered (with_other Q k) (num d.line k) (aim d d.other k)) (Ok Q)

-- 'step by step': the first k
unfoldable pub link : Draft → ℕ → Result Program Refusal
link d zero = Ok d.program
link d (suc k) = then (link d k) (link_step d k)

-- ---- all checks at line n, `lemmas`

-- 55 'both first steps critical', 'only with a word' (document 02, S-2)
unfoldable pub started : Draft → ℕ → Program → Result Job Refusal
started d n P = cond (both_critical d.program) (refuse BothCritical n) (Ok (without_lemmas d P))

-- 99 'no step of A', 98 'no step of B'
unfoldable pub at_lemmas : Draft → ℕ → Result Job Refusal
at_lemmas d n =
    cond (ltb (first_of d.program 1) d.program.steps)
    (cond (ltb (first_of d.program 2) d.program.steps) (then (link d d.program.steps) (started d n)) (refuse NoStepOfB n))
    (refuse NoStepOfA n)
