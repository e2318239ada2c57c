-- 'Line 1 is `bound R`, R from 1 to 99 without leading zero' (document 01, 'The job text');
-- 'Line 1 may end in ` start` or ` crash`' (document 02, S-2).
use Rattle.std.specs.Prelude.{ℕ, ◌+◌, ◌*◌, ◌-◌, cond, List, drop, Result, Ok, Err}
use Rattle.lists.specs.Rows.{num}
use Rattle.lists.specs.Pieces.{is}
use Rattle.job.specs.Words.{no_word, start, crash}
use Rattle.job.specs.declared.Word.{Word}
use Rattle.job.specs.declared.Word.TheVariants.{Free, Start, Crash}
use Rattle.job.specs.declared.refusal.Fault.{Fault}
use Rattle.fields.specs.Fields.{digit, bound_field, range_field, start_word, crash_word, bound_end_field}
use Rattle.fields.specs.declared.Cursor.{Cursor}
use Rattle.lines.specs.declared.FirstLine.{FirstLine}

-- 'A field that cannot be read ends the job with its number'; else the rest is read from where the cursor went
unfoldable pub after : {T : Type 0} → Result Cursor Fault → (Cursor → Result T Fault) → Result T Fault
after (Ok at) rest = rest at
after (Err fault) rest = Err fault

-- a digit's value, 0 of any other byte
unfoldable pub value_of : ℕ → ℕ
value_of b = cond (digit b) (b - 48) 0

-- R, of one digit or two
unfoldable pub number_at : List ℕ → ℕ → ℕ
number_at s column =
    cond (digit (num s (column + 1))) (value_of (num s column) * 10 + value_of (num s (column + 1))) (value_of (num s column))

-- the word, by what is left of the line behind R
unfoldable pub word_of : List ℕ → Word
word_of rest = cond (is crash_word rest) Crash (cond (is start_word rest) Start Free)

-- its number in the table
abbrev pub code_of : Word → ℕ
code_of Free = no_word
code_of Start = start
code_of Crash = crash

unfoldable pub first_line : List ℕ → Cursor → Result FirstLine Fault
first_line s at =
    after (bound_field s at) λ a.
    after (range_field s a) λ b.
    after (bound_end_field s b) λ _.
    Ok (record { bound = number_at s a.column; word = word_of (drop b.column s) })
