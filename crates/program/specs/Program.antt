-- The program part of a text (document 01, 'The job text'): 1, line 1, and then line by line up to `lemmas`.
use Rattle.std.specs.Prelude.{ℕ, ◌+◌, cond, List, [], ◌∷◌, length, Option, Some, None, Result, Ok, Err}
use Rattle.lists.specs.Tests.{within}
use Rattle.job.specs.Limits.{max_text}
use Rattle.job.specs.Faults.{refusal_at, refusal_of}
use Rattle.job.specs.declared.refusal.Fault.{Fault}
use Rattle.job.specs.declared.refusal.Fault.TheVariants.{TextSize, NoLemmas}
use Rattle.job.specs.declared.refusal.Refusal.{Refusal}
use Rattle.scan.specs.Lines.{Row, lines}
use Rattle.fields.specs.Fields.{whole_line}
use Rattle.lines.specs.FirstLine.{first_line, code_of}
use Rattle.lines.specs.declared.FirstLine.{FirstLine}
use Rattle.program.specs.Draft.{blank}
use Rattle.program.specs.ProgramLine.{line_of}
use Rattle.program.specs.declared.Draft.{Draft}
use Rattle.program.specs.declared.ProgramPart.{ProgramPart}

-- line n is `lemmas`, and the text goes on at at
abbrev pub reached : ℕ → ℕ → Draft → ProgramPart
reached n at d = record { draft = d; line = n; at = at }

-- what is read of line n, or its fault there
abbrev pub placed : {T : Type 0} → ℕ → Result T Fault → Result T Refusal
placed n (Ok x) = Ok x
placed n (Err fault) = Err (refusal_at fault n)

-- after line n, before which the draft was d: more lines, or the end of the program part
unfoldable pub follow : Result (Option Draft) Fault → Draft → ℕ → ℕ → (Draft → Result ProgramPart Refusal) → Result ProgramPart Refusal
follow (Ok (Some e)) d n at more = more e
follow (Ok None) d n at more = Ok (reached n at d)
follow (Err fault) d n at more = Err (refusal_at fault n)

-- the lines after the first n, which begin at at; 6 'no `lemmas`', at lines+1
unfoldable pub program : Draft → ℕ → ℕ → List Row → Result ProgramPart Refusal
program d at n [] = Err (refusal_at NoLemmas (n + 1))
program d at n (l ∷ ls) =
    follow (line_of d l (n + 1)) d (n + 1) (at + length l.bytes + 1) λ e. program e (at + length l.bytes + 1) (n + 1) ls

-- line 1 says R and its word, or is refused
unfoldable pub opened : Result FirstLine Fault → (FirstLine → Result ProgramPart Refusal) → Result ProgramPart Refusal
opened (Ok first) rest = rest first
opened (Err fault) rest = Err (refusal_at fault 1)

unfoldable pub whole : Result (Unit {0}) Fault → Result ProgramPart Refusal → Result ProgramPart Refusal
whole (Ok _) rest = rest
whole (Err fault) rest = Err (refusal_at fault 1)

-- 'Line 1 is `bound R`', 'may end in ` start` or ` crash`'; 2, 3, 4 come before 5
unfoldable pub from_line1 : List Row → Result ProgramPart Refusal
from_line1 [] = Err (refusal_of TextSize)
from_line1 (l ∷ ls) =
    whole (whole_line l)
    (opened (first_line l.bytes (record { line = 1; column = 0 })) λ first.
    program (blank first.bound (code_of first.word)) (length l.bytes + 1) 1 ls)

-- 1 'job empty or over 32,768 bytes' comes first
unfoldable pub program_of : List ℕ → Result ProgramPart Refusal
program_of text = cond (within 1 max_text (length text)) (from_line1 (lines text)) (Err (refusal_of TextSize))
