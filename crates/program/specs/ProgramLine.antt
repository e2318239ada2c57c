-- One program line (document 01, 'The job text'): `lemmas`, a comment, or a step.
use Rattle.std.specs.Prelude.{ℕ, Bool, true, false, cond, ◌&&◌, List, [], ◌∷◌, eqb, leb, length, Option, Some, None, Result, Ok, Err}
use Rattle.job.specs.Limits.{max_steps}
use Rattle.lists.specs.Pieces.{starts}
use Rattle.scan.specs.Lines.{Row}
use Rattle.fields.specs.Fields.{whole_line}
use Rattle.lines.specs.StepLine.{step_line}
use Rattle.job.specs.declared.refusal.Fault.{Fault}
use Rattle.job.specs.declared.refusal.Fault.TheVariants.{ManySteps}
use Rattle.lines.specs.declared.Step.{Step}
use Rattle.program.specs.Draft.{add_step}
use Rattle.program.specs.declared.Draft.{Draft}

-- 'the line `lemmas`'
unfoldable pub is_lemmas : List ℕ → Bool
is_lemmas s = eqb (length s) 6 && starts (108 ∷ 101 ∷ 109 ∷ 109 ∷ 97 ∷ 115 ∷ []) s

-- 'A program line that begins `~` is a comment'
unfoldable pub is_comment : List ℕ → Bool
is_comment s = starts (126 ∷ []) s

-- A line gives the draft that the next line goes on with, none at `lemmas`, or what is turned away.

-- a step line's step is added
unfoldable pub stepped : Draft → List ℕ → ℕ → Result Step Fault → Result (Option Draft) Fault
stepped d s n (Ok p) = Ok (Some (add_step d s p n))
stepped d s n (Err fault) = Err fault

-- 7 '101st step'; 'In a line: .. then 5, 7 or 41, then left to right'
unfoldable pub program_line : Draft → List ℕ → ℕ → Result (Option Draft) Fault
program_line d s n =
    cond (is_lemmas s) (Ok None)
    (cond (is_comment s) (Ok (Some d))
    (cond (leb max_steps d.program.steps) (Err ManySteps)
    (stepped d s n (step_line d.labels d.program.steps s (record { line = n; column = 0 })))))

-- 'In a line: 2, 3, 4, then ..'
unfoldable pub whole : Result (Unit {0}) Fault → Result (Option Draft) Fault → Result (Option Draft) Fault
whole (Ok _) rest = rest
whole (Err fault) rest = Err fault

abbrev pub line_of : Draft → Row → ℕ → Result (Option Draft) Fault
line_of d l n = whole (whole_line l) (program_line d l.bytes n)

-- ---- how the code comes to it, which is lent the draft

-- whether lines go on behind a line, as they do but at `lemmas`
abbrev pub goes_on : Result (Option Draft) Fault → Result Bool Fault
goes_on (Ok (Some e)) = Ok true
goes_on (Ok None) = Ok false
goes_on (Err fault) = Err fault

-- the draft behind a line: a new one, or that before it
abbrev pub draft_of : Result (Option Draft) Fault → Draft → Draft
draft_of (Ok (Some e)) d = e
draft_of (Ok None) d = d
draft_of (Err fault) d = d
