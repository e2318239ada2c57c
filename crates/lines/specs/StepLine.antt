-- A step line (document 01, 'The job text'): its fields from left to right, and what it says, as columns of the line.
use Rattle.std.specs.Prelude.{ℕ, ◌+◌, Bool, true, false, cond, Option, Some, None, List, [], ◌∷◌, eqb, drop, Result, Ok, Err}
use Rattle.lists.specs.Rows.{num}
use Rattle.lists.specs.Pieces.{starts}
use Rattle.scan.specs.Bytes.{word_at}
use Rattle.scan.specs.Names.{lookup}
use Rattle.fields.specs.Fields.{name_field, space_field, variable_field, equals_field, bit_field}
use Rattle.fields.specs.Fields.{goto_field, to_field, else_field, other_field, step_end_field}
use Rattle.fields.specs.declared.Cursor.{Cursor}
use Rattle.job.specs.declared.Kind.{Kind}
use Rattle.job.specs.declared.Kind.TheVariants.{Maybe, Critical, Assign, If}
use Rattle.job.specs.declared.refusal.Fault.{Fault}
use Rattle.job.specs.declared.refusal.Fault.TheVariants.{NameUsed}
use Rattle.lines.specs.FirstLine.{after}
use Rattle.lines.specs.declared.Step.{Step}

-- 12 'name used already'
unfoldable pub fresh : Option ℕ → Result Step Fault → Result Step Fault
fresh (Some k) rest = Err NameUsed
fresh None rest = rest

-- the kind's number in the table
abbrev pub code_of : Kind → ℕ
code_of Maybe = 1
code_of Critical = 2
code_of Assign = 3
code_of If = 4

abbrev pub is_if : Kind → Bool
is_if If = true
is_if _ = false

-- ---- what the line says

-- of a kind, with a name that ends there
abbrev pub begun : Kind → ℕ → Step
begun kind name = record { kind = kind; name = name; variable = 0; equals = 0; value = 0; to = 0; end = 0; other = 0 }

-- with V from v to e, and the value b
abbrev pub tested : Step → ℕ → ℕ → ℕ → Step
tested p v e b = record p { variable = v; equals = e; value = b }

-- with L from l to e
abbrev pub going : Step → ℕ → ℕ → Step
going p l e = record p { to = l; end = e }

-- with M from o to the line's end
abbrev pub or_else : Step → ℕ → Step
or_else p o = record p { other = o }

-- the value of v
unfoldable pub bit_of : ℕ → ℕ
bit_of b = cond (eqb b 49) 1 0

-- ---- the line, from the right end of it to the left

-- ` else ` M
unfoldable pub else_line : List ℕ → Cursor → Step → Result Step Fault
else_line s at p =
    after (else_field s at) λ o.
    after (other_field s o) λ _.
    Ok (or_else p o.column)

unfoldable pub end_line : List ℕ → Cursor → Step → Result Step Fault
end_line s at p = after (step_end_field s at) λ _. Ok p

-- ` goto ` L, and then the line's end or, of an if, ` else ` M
unfoldable pub goto_line : List ℕ → Cursor → Step → Result Step Fault
goto_line s at p =
    after (goto_field s at) λ l.
    after (to_field s l) λ e.
    cond (is_if p.kind) (else_line s e (going p l.column e.column)) (end_line s e (going p l.column e.column))

-- V=v, and then ` goto `
unfoldable pub test_line : List ℕ → Cursor → Step → Result Step Fault
test_line s at p =
    after (variable_field s at) λ a.
    after (equals_field s a) λ b.
    after (bit_field s b) λ d.
    goto_line s d (tested p at.column a.column (bit_of (num s b.column)))

abbrev pub on : Cursor → ℕ → Cursor
on at n = record { line = at.line; column = at.column + n }

abbrev pub maybe_word : List ℕ
maybe_word = 109 ∷ 97 ∷ 121 ∷ 98 ∷ 101 ∷ 32 ∷ []

abbrev pub critical_word : List ℕ
critical_word = 99 ∷ 114 ∷ 105 ∷ 116 ∷ 105 ∷ 99 ∷ 97 ∷ 108 ∷ 32 ∷ []

abbrev pub if_word : List ℕ
if_word = 105 ∷ 102 ∷ 32 ∷ []

-- 'A line is `maybe`, `critical` or `if` when that word and a space follow the name's space; else it is read as an assignment'
-- the space behind `maybe` and `critical` is that of ` goto `
unfoldable pub kind_line : List ℕ → Cursor → ℕ → Result Step Fault
kind_line s b name =
    cond (starts maybe_word (drop b.column s)) (goto_line s (on b 5) (begun Maybe name))
    (cond (starts critical_word (drop b.column s)) (goto_line s (on b 8) (begun Critical name))
    (cond (starts if_word (drop b.column s)) (test_line s (on b 3) (begun If name))
    (test_line s b (begun Assign name))))

-- N, which is none of the names so far, its space, and then by kind
unfoldable pub step_line : List ℕ → ℕ → List ℕ → Cursor → Result Step Fault
step_line labels count s at =
    after (name_field s at) λ a.
    fresh (lookup labels count (word_at 32 s at.column))
    (after (space_field s a) λ b. kind_line s b a.column)
