-- Document 01's own lines, and numbers at the ends of their range, evaluated by the checker.
use mathlib.Core.Path.{◌≡◌, refl}
use mathlib.Core.List.{List, [], ◌∷◌, ◌++◌}
use Prim.Native.Nat.{ℕ}
use lib.IntN.{ℤ, pos, negsuc}
use lib.ListN.{replicate}
use Rattle.lists.specs.Rows.{each}
use Rattle.lists.specs.Places.{passing, first}
use Rattle.lists.specs.Tests.{every}
use Rattle.lists.specs.Pieces.{cut, starts}
use Rattle.job.specs.OneBit.{one_bit}
use Rattle.job.specs.Faults.{refusal_at}
use Rattle.job.specs.declared.refusal.Fault.TheVariants.{NameUsed}
use Rattle.scan.specs.Lines.{lines, rows}
use Rattle.program.specs.ProgramLine.{is_lemmas, is_comment}
use Rattle.put.specs.Names.{name_at}
use Rattle.text.specs.Comments.{remarks, comments}
use Rattle.text.specs.Comments as Comments
use Rattle.lists.specs.Numerals.{digits_below, numeral}
use Rattle.text.specs.Dimacs.{told, number_text}
use Rattle.text.specs.Texts.{fitting, texted, with_texts}
use Rattle.text.specs.Whole.{with_text}
use Rattle.text.specs.Lines.{sentence, header, refused}
use Rattle.text.specs.RunText.{turn_text, steps_text, line_text, run_line, run_lines}

-- `0`, LF; `-2147483648`; `2147483647`
zero : told (pos 0) ≡ 48 ∷ 10 ∷ []
unfolding told numeral digits_below
zero = refl

least : told (negsuc 2147483647) ≡ 45 ∷ 50 ∷ 49 ∷ 52 ∷ 55 ∷ 52 ∷ 56 ∷ 51 ∷ 54 ∷ 52 ∷ 56 ∷ 32 ∷ []
unfolding told numeral digits_below
least = refl

most : told (pos 2147483647) ≡ 50 ∷ 49 ∷ 52 ∷ 55 ∷ 52 ∷ 56 ∷ 51 ∷ 54 ∷ 52 ∷ 55 ∷ 32 ∷ []
unfolding told numeral digits_below
most = refl

-- `-10 3 6 0` in nine bytes: three numbers, and the last byte is kept
abbrev clause : List ℤ
clause = negsuc 9 ∷ pos 3 ∷ pos 6 ∷ pos 0 ∷ []

piece : with_texts 4 (number_text clause) (replicate 9 7) ≡ 45 ∷ 49 ∷ 48 ∷ 32 ∷ 51 ∷ 32 ∷ 54 ∷ 32 ∷ 7 ∷ []
unfolding with_texts fitting each passing told numeral digits_below
piece = refl

piece_counts : texted 4 (number_text clause) (replicate 9 7) ≡ record { count = 3; bytes = 8 }
unfolding texted fitting each passing told numeral digits_below
piece_counts = refl

-- `p cnf 10 18`, and a buffer that is one byte short of it
cnf_header : with_text (header 10 18) (replicate 13 7)
    ≡ 112 ∷ 32 ∷ 99 ∷ 110 ∷ 102 ∷ 32 ∷ 49 ∷ 48 ∷ 32 ∷ 49 ∷ 56 ∷ 10 ∷ 7 ∷ []
unfolding with_text sentence numeral digits_below
cnf_header = refl

short_header : with_text (header 10 18) (replicate 11 7) ≡ replicate 11 7
unfolding with_text sentence numeral digits_below
short_header = refl

-- `refused 12 at 4`
refusal : refused (refusal_at NameUsed 4)
    ≡ 114 ∷ 101 ∷ 102 ∷ 117 ∷ 115 ∷ 101 ∷ 100 ∷ 32 ∷ 49 ∷ 50 ∷ 32 ∷ 97 ∷ 116 ∷ 32 ∷ 52 ∷ 10 ∷ []
unfolding sentence numeral digits_below
refusal = refl

-- `0 A0 B0 a=0 A` and `1 A0 B0 a=1`
run : each 2 (run_line (one_bit 1 0 [] []) (1 ∷ 2 ∷ 0 ∷ 1 ∷ 1 ∷ 2 ∷ 1 ∷ 0 ∷ []))
    ≡ (48 ∷ 32 ∷ 65 ∷ 48 ∷ 32 ∷ 66 ∷ 48 ∷ 32 ∷ 97 ∷ 61 ∷ 48 ∷ 32 ∷ 65 ∷ 10 ∷ [])
    ++ (49 ∷ 32 ∷ 65 ∷ 48 ∷ 32 ∷ 66 ∷ 48 ∷ 32 ∷ 97 ∷ 61 ∷ 49 ∷ 10 ∷ [])
unfolding one_bit each line_text steps_text turn_text name_at first passing numeral digits_below
run = refl

run_lines_lem : run_lines (one_bit 1 0 [] []) ≡ 2
unfolding one_bit run_lines every
run_lines_lem = refl

-- 01's job, with the lemma `~a` behind it: `c ~ one bit`
unfoldable job : List ℕ
job =
    (98 ∷ 111 ∷ 117 ∷ 110 ∷ 100 ∷ 32 ∷ 49 ∷ 10 ∷ [])
    ++ (126 ∷ 32 ∷ 111 ∷ 110 ∷ 101 ∷ 32 ∷ 98 ∷ 105 ∷ 116 ∷ 10 ∷ [])
    ++ (65 ∷ 48 ∷ 32 ∷ 97 ∷ 61 ∷ 49 ∷ 32 ∷ 103 ∷ 111 ∷ 116 ∷ 111 ∷ 32 ∷ 65 ∷ 48 ∷ 10 ∷ [])
    ++ (66 ∷ 48 ∷ 32 ∷ 109 ∷ 97 ∷ 121 ∷ 98 ∷ 101 ∷ 32 ∷ 103 ∷ 111 ∷ 116 ∷ 111 ∷ 32 ∷ 66 ∷ 48 ∷ 10 ∷ [])
    ++ (108 ∷ 101 ∷ 109 ∷ 109 ∷ 97 ∷ 115 ∷ 10 ∷ [])
    ++ (126 ∷ 97 ∷ 10 ∷ [])

remark : comments job ≡ 99 ∷ 32 ∷ 126 ∷ 32 ∷ 111 ∷ 110 ∷ 101 ∷ 32 ∷ 98 ∷ 105 ∷ 116 ∷ 10 ∷ []
unfolding job comments remarks Comments.remark is_lemmas is_comment lines rows cut starts
remark = refl
