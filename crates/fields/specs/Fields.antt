-- The fields of a line (document 01, 'The job text'): each gives the cursor moved on, or what is turned away; the numbers are those that
-- `Rattle.job.specs.Faults` has of the faults.
use Rattle.std.specs.Prelude.{ℕ, ◌+◌, Bool, cond, ◌||◌, List, [], ◌∷◌, leb, ltb, length, drop, Result, Ok, Err}
use Rattle.lists.specs.Rows.{num}
use Rattle.lists.specs.Tests.{within}
use Rattle.lists.specs.Pieces.{starts, is}
use Rattle.scan.specs.Bytes.{word_at, headed, plain}
use Rattle.scan.specs.Lines.{Row}
use Rattle.fields.specs.declared.Cursor.{Cursor}
use Rattle.job.specs.declared.refusal.Fault.{Fault}
use Rattle.job.specs.declared.refusal.Fault.TheVariants.{LineLong, LineByte, LineOpen, FirstLine, NameLong, NameIll, NoSpace, TextAfter}
use Rattle.job.specs.declared.refusal.Fault.TheVariants.{NoGoto, ToIll, NoEquals, VariableLong, VariableIll, Value, NoElse, OtherIll}

-- the field is read, and the cursor goes on by n columns
abbrev pub went : Cursor → ℕ → Result Cursor Fault
went at n = Ok (record { line = at.line; column = at.column + n })

-- ---- names

-- a name ends at the first stop or the line's end, has at most most letters or digits, the first from lo to hi
unfoldable pub word_field : ℕ → ℕ → ℕ → ℕ → Fault → Fault → List ℕ → Cursor → Result Cursor Fault
word_field stop most lo hi long ill s at =
    cond (ltb most (length (word_at stop s at.column))) (Err long)
    (cond (headed lo hi (word_at stop s at.column)) (went at (length (word_at stop s at.column))) (Err ill))

-- N: 'A step name has 1 to 4 letters or digits, the first A or B'; 'a name ends at the first space'
-- 10 'name over 4', 11 'name ill-formed or empty'
abbrev pub name_field : List ℕ → Cursor → Result Cursor Fault
name_field = word_field 32 4 65 66 NameLong NameIll

-- V: 'A shared variable has 1 or 2 letters or digits, the first lowercase'; it ends 'at `=` or line end'
-- 20 'V over 2', 21 'V ill-formed'
abbrev pub variable_field : List ℕ → Cursor → Result Cursor Fault
variable_field = word_field 61 2 97 122 VariableLong VariableIll

-- L ends 'at a space or line end': 17 'L ill-formed'
abbrev pub to_field : List ℕ → Cursor → Result Cursor Fault
to_field = word_field 32 4 65 66 ToIll ToIll

-- M ends 'only at line end', and no line has a byte 10: 24 'M ill-formed'
abbrev pub other_field : List ℕ → Cursor → Result Cursor Fault
other_field = word_field 10 4 65 66 OtherIll OtherIll

-- ---- fixed words

unfoldable pub fixed_field : List ℕ → Fault → List ℕ → Cursor → Result Cursor Fault
fixed_field word fault s at = cond (starts word (drop at.column s)) (went at (length word)) (Err fault)

-- 13 'no space after name'
abbrev pub space_field : List ℕ → Cursor → Result Cursor Fault
space_field = fixed_field (32 ∷ []) NoSpace

-- 18 'no `=`'
abbrev pub equals_field : List ℕ → Cursor → Result Cursor Fault
equals_field = fixed_field (61 ∷ []) NoEquals

-- 16 'no ` goto `'
abbrev pub goto_field : List ℕ → Cursor → Result Cursor Fault
goto_field = fixed_field (32 ∷ 103 ∷ 111 ∷ 116 ∷ 111 ∷ 32 ∷ []) NoGoto

-- 23 'no ` else `'
abbrev pub else_field : List ℕ → Cursor → Result Cursor Fault
else_field = fixed_field (32 ∷ 101 ∷ 108 ∷ 115 ∷ 101 ∷ 32 ∷ []) NoElse

-- `bound `: 5 'line 1 wrong'
abbrev pub bound_field : List ℕ → Cursor → Result Cursor Fault
bound_field = fixed_field (98 ∷ 111 ∷ 117 ∷ 110 ∷ 100 ∷ 32 ∷ []) FirstLine

-- ---- numbers

-- 'v is 0 or 1': 22 'v not 0 or 1'
unfoldable pub bit_field : List ℕ → Cursor → Result Cursor Fault
bit_field s at = cond (within 48 49 (num s at.column)) (went at 1) (Err Value)

abbrev pub digit : ℕ → Bool
digit = within 48 57

-- 'R from 1 to 99 without leading zero': 5
unfoldable pub range_field : List ℕ → Cursor → Result Cursor Fault
range_field s at =
    cond (within 49 57 (num s at.column)) (went at (cond (digit (num s (at.column + 1))) 2 1)) (Err FirstLine)

-- ---- the line's end

unfoldable pub end_field : Fault → List ℕ → Cursor → Result Cursor Fault
end_field fault s at = cond (leb (length s) at.column) (Ok at) (Err fault)

-- 14 'text after L, not an if'
abbrev pub step_end_field : List ℕ → Cursor → Result Cursor Fault
step_end_field = end_field TextAfter

-- ---- the word of line 1 (document 02, S-2): 'Line 1 may end in ` start` or ` crash`'

abbrev pub start_word : List ℕ
start_word = 32 ∷ 115 ∷ 116 ∷ 97 ∷ 114 ∷ 116 ∷ []

abbrev pub crash_word : List ℕ
crash_word = 32 ∷ 99 ∷ 114 ∷ 97 ∷ 115 ∷ 104 ∷ []

-- with its one space, and nothing behind it
abbrev pub is_word : List ℕ → Bool
is_word rest = is start_word rest || is crash_word rest

-- behind R: the line's end, or the word; '5 for any other word'
unfoldable pub bound_end_field : List ℕ → Cursor → Result Cursor Fault
bound_end_field s at =
    cond (leb (length s) at.column || is_word (drop at.column s)) (went at (length (drop at.column s))) (Err FirstLine)

-- ---- the line as a whole

-- bytes in a line before its LF
abbrev pub max_columns : ℕ
max_columns = 1022

-- 2 'line over 1,022 bytes before its LF', 3 'byte outside 32 to 126', 4 'last line lacks LF'
unfoldable pub whole_line : Row → Result (Unit {0}) Fault
whole_line l =
    cond (ltb max_columns (length l.bytes)) (Err LineLong) (cond (plain l.bytes) (cond l.ended (Ok tt) (Err LineOpen)) (Err LineByte))
