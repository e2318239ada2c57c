-- 01's job, the short examples of its refusal table and 02's words of line 1, read by the definition. The long ones (2, 7, 41) run as
-- tests.
use mathlib.Core.Path.{◌≡◌, refl}
use mathlib.Core.List.{List, [], ◌∷◌, ◌++◌, map}
use Prim.Native.Nat.{ℕ}
use Prim.Native.Char.{code}
use Prim.Native.String.{String}
use Prim.Native.String.{[] as end, ◌∷◌ as ◌then◌}
use lib.IntN.{pos, negsuc}
use lib.ListN.{take}
use Rattle.lists.specs.Rows.{each}
use Rattle.lists.specs.Tests.{every, all, within}
use Rattle.lists.specs.Places.{passing, first}
use Rattle.lists.specs.Pieces.{cut, up_to, starts, is}
use Rattle.job.specs.Table.{first_of}
use Rattle.job.specs.Words.{no_word, start, crash}
use Rattle.job.specs.Fitness.{both_critical}
use Rattle.job.specs.Answers.{Answer, gives, refuses, answer_of}
use Rattle.scan.specs.Bytes.{all_of, alnum, headed}
use Rattle.scan.specs.Lines.{rows, lines}
use Rattle.scan.specs.Names.{entry_is, lookup}
use Rattle.fields.specs.Fields.{word_field, fixed_field, bit_field, range_field, end_field, bound_end_field, whole_line}
use Rattle.lines.specs.FirstLine.{after, first_line, number_at, value_of, word_of}
use Rattle.lines.specs.StepLine.{fresh, bit_of, else_line, end_line, goto_line, test_line, kind_line, step_line}
use Rattle.items.specs.Items.{named_in}
use Rattle.program.specs.Draft.{blank, mention_at, process_of, other_end, enter, add_step}
use Rattle.program.specs.ProgramLine.{is_lemmas, is_comment, stepped, program_line}
use Rattle.program.specs.ProgramLine.{whole as whole_program_line}
use Rattle.program.specs.Program.{follow, program, opened, from_line1, program_of}
use Rattle.program.specs.Program.{whole as whole_line1}
use Rattle.parse.specs.Answers.{table_of, forgotten, then, without_lemmas}
use Rattle.parse.specs.Labels.{target_of, aim, entered, link_step, link, started, at_lemmas}
use Rattle.parse.specs.Lemmas.{filled, words, bare, named, lemma, whole, lemma_line, lemma_lines}
use Rattle.parse.specs.Reading.{from_lemmas, reading}

unfoldable pub bytes : String → List ℕ
bytes end = []
bytes (c then cs) = code c ∷ bytes cs

unfoldable verdict : String → Answer (Unit {0})
verdict text = forgotten (answer_of (reading (bytes text)))

-- 01, 'A job in full'
abbrev pub one_bit : String
one_bit = "bound 1\n~ one bit\nA0 a=1 goto A0\nB0 maybe goto B0\nlemmas\n"

-- its table
table : let j = table_of (reading (bytes one_bit)) in
    (verdict one_bit ≡ gives tt)
    × (j.program.bound ≡ 1) × (j.program.steps ≡ 2) × (j.program.variables ≡ 1)
    × (take 3 j.program.process ≡ 1 ∷ 2 ∷ 0 ∷ [])
    × (take 3 j.program.kind ≡ 3 ∷ 1 ∷ 0 ∷ [])
    × (take 3 j.program.to ≡ 1 ∷ 2 ∷ 0 ∷ [])
    × (take 3 j.program.variable ≡ 1 ∷ 0 ∷ 0 ∷ [])
    × (take 3 j.program.value ≡ 1 ∷ 0 ∷ 0 ∷ [])
    × (take 9 j.labels ≡ 65 ∷ 48 ∷ 0 ∷ 0 ∷ 66 ∷ 48 ∷ 0 ∷ 0 ∷ 0 ∷ [])
    × (take 5 j.names ≡ 97 ∷ 0 ∷ 0 ∷ 0 ∷ 0 ∷ [])
unfolding bytes verdict every all within each passing first first_of both_critical cut up_to all_of starts is alnum headed rows lines
    entry_is lookup word_field fixed_field bit_field range_field end_field bound_end_field whole_line first_line number_at value_of
    word_of after
    fresh bit_of else_line end_line goto_line test_line kind_line step_line blank mention_at process_of other_end enter
    add_step is_lemmas
    is_comment stepped program_line whole_program_line follow program opened from_line1 program_of whole_line1 without_lemmas then
    target_of aim entered link_step link started at_lemmas filled words bare named_in named lemma whole lemma_line
    lemma_lines
    from_lemmas reading
table = (refl, refl, refl, refl, refl, refl, refl, refl, refl, refl, refl)

-- in a lemma `~` is negation
items : take 4 (table_of (reading (bytes "bound 1\n~ one bit\nA0 a=1 goto A0\nB0 maybe goto B0\nlemmas\n~a  A0 B0\n"))).items
    ≡ negsuc 2 ∷ pos 1 ∷ pos 2 ∷ pos 0 ∷ []
unfolding bytes verdict every all within each passing first first_of both_critical cut up_to all_of starts is alnum headed rows lines
    entry_is lookup word_field fixed_field bit_field range_field end_field bound_end_field whole_line first_line number_at value_of
    word_of after
    fresh bit_of else_line end_line goto_line test_line kind_line step_line blank mention_at process_of other_end enter
    add_step is_lemmas
    is_comment stepped program_line whole_program_line follow program opened from_line1 program_of whole_line1 without_lemmas then
    target_of aim entered link_step link started at_lemmas filled words bare named_in named lemma whole lemma_line
    lemma_lines
    from_lemmas reading
items = refl

-- line 1 with each word, and without one where both first steps are critical (document 02, S-2)
abbrev accepted : List (String × ℕ)
accepted =
    ("bound 3\nA0 maybe goto A0\nB0 maybe goto B0\nlemmas\n", no_word)
    ∷ ("bound 3 start\nA0 maybe goto A0\nB0 maybe goto B0\nlemmas\n", start)
    ∷ ("bound 3 crash\nA0 maybe goto A0\nB0 maybe goto B0\nlemmas\n", crash)
    ∷ ("bound 3\nA0 critical goto A0\nB0 critical goto B0\nlemmas\n", no_word)
    ∷ []

-- the answer, and the word in the table
unfoldable word_read : String → Answer (Unit {0}) × ℕ
word_read text = (verdict text, (table_of (reading (bytes text))).program.word)

words_told : map (λ (c : String × ℕ). word_read c.0) accepted ≡ map (λ (c : String × ℕ). (gives tt, c.1)) accepted
unfolding bytes verdict word_read every all within each passing first first_of both_critical cut up_to all_of starts is alnum headed rows
    lines entry_is lookup word_field fixed_field bit_field range_field end_field bound_end_field whole_line first_line number_at value_of
    word_of
    after fresh bit_of else_line end_line goto_line test_line kind_line step_line blank mention_at process_of other_end
    enter add_step
    is_lemmas is_comment stepped program_line whole_program_line follow program opened from_line1 program_of whole_line1
    without_lemmas
    then target_of aim entered link_step link started at_lemmas filled words bare named_in named lemma whole lemma_line
    lemma_lines from_lemmas reading
words_told = refl

-- each text with its refusal
abbrev refusals : List (String × Answer (Unit {0}))
refusals =
    ("", refuses 1 0)
    ∷ ("bound 1\nA0\tmaybe goto A0\n", refuses 3 2)
    ∷ ("bound 1", refuses 4 1)
    ∷ ("bound 0\n", refuses 5 1)
    ∷ ("bound 07\n", refuses 5 1)
    ∷ ("bound 100\n", refuses 5 1)
    ∷ ("bound 1\n", refuses 6 2)
    ∷ ("bound 1\nA1234 a=1 goto A0\n", refuses 10 2)
    ∷ ("bound 1\nC0 maybe goto C0\n", refuses 11 2)
    ∷ ("bound 1\n\n", refuses 11 2)
    ∷ ("bound 1\nA0 maybe goto A0\nA0 maybe goto A0\n", refuses 12 3)
    ∷ ("bound 1\nA0\n", refuses 13 2)
    ∷ ("bound 1\nA0 maybe goto A1 q\n", refuses 14 2)
    ∷ ("bound 1\nA0 maybe  goto A1\n", refuses 16 2)
    ∷ ("bound 1\nA0 a=10 goto A0\n", refuses 16 2)
    ∷ ("bound 1\nA0 a=1 goto b1\n", refuses 17 2)
    ∷ ("bound 1\nA0 maybe goto b1 q\n", refuses 17 2)
    ∷ ("bound 1\nA0 if a\n", refuses 18 2)
    ∷ ("bound 1\nA0 if\n", refuses 18 2)
    ∷ ("bound 1\nA0 maybe\n", refuses 20 2)
    ∷ ("bound 1\nA0 A=1 goto A0\n", refuses 21 2)
    ∷ ("bound 1\nA0 if \n", refuses 21 2)
    ∷ ("bound 1\nA0 a=2 goto A0\n", refuses 22 2)
    ∷ ("bound 1\nA0 if a=1 goto A0\n", refuses 23 2)
    ∷ ("bound 1\nA0 if a=1 goto A0 else A1 q\n", refuses 24 2)
    ∷ ("bound 1\nA0 maybe goto A9\nB0 maybe goto B0\nlemmas\n", refuses 30 2)
    ∷ ("bound 1\nB0 maybe goto B0\nA0 if a=1 goto A0 else A7\nlemmas\n", refuses 30 3)
    ∷ ("bound 1\nA0 maybe goto B0\nB0 maybe goto B0\nlemmas\n", refuses 32 2)
    ∷ ("bound 1\n~ one bit\nA0 a=1 goto A0\nB0 maybe goto B0\nlemmas\na\n\n", refuses 42 7)
    ∷ ("bound 1\n~ one bit\nA0 a=1 goto A0\nB0 maybe goto B0\nlemmas\n~~a\n", refuses 43 6)
    ∷ ("bound 1\n~ one bit\nA0 a=1 goto A0\nB0 maybe goto B0\nlemmas\na b\n", refuses 43 6)
    ∷ ("bound 1 crash\nA0 critical goto A0\nB0 critical goto B0\nlemmas\n", refuses 55 4)
    ∷ ("bound 1\nA0 maybe goto A0\nlemmas\n", refuses 98 3)
    ∷ ("bound 1\nB0 maybe goto B0\nlemmas\n", refuses 99 3)
    ∷ ("bound 1\nlemmas\n", refuses 99 2)
    ∷ ("bound 1 start\nA0 critical goto A0\nB0 critical goto B0\nlemmas\n", refuses 55 4)
    ∷ ("bound 3 start \n", refuses 5 1)
    ∷ ("bound 3  start\n", refuses 5 1)
    ∷ ("bound 3 Start\n", refuses 5 1)
    ∷ ("bound 3 start crash\n", refuses 5 1)
    ∷ ("bound 3 \n", refuses 5 1)
    ∷ []

as_told : map (λ (c : String × Answer (Unit {0})). verdict c.0) refusals ≡ map (λ (c : String × Answer (Unit {0})). c.1) refusals
unfolding bytes verdict every all within each passing first first_of both_critical cut up_to all_of starts is alnum headed rows lines
    entry_is lookup word_field fixed_field bit_field range_field end_field bound_end_field whole_line first_line number_at value_of
    word_of after
    fresh bit_of else_line end_line goto_line test_line kind_line step_line blank mention_at process_of other_end enter
    add_step is_lemmas
    is_comment stepped program_line whole_program_line follow program opened from_line1 program_of whole_line1 without_lemmas then
    target_of aim entered link_step link started at_lemmas filled words bare named_in named lemma whole lemma_line
    lemma_lines
    from_lemmas reading
as_told = refl

-- a 65th name
too_many : forgotten (answer_of (reading (bytes one_bit ++ (each 65 (λ _. bytes "a ") ++ bytes "\n")))) ≡ refuses 44 6
unfolding bytes verdict every all within each passing first first_of both_critical cut up_to all_of starts is alnum headed rows lines
    entry_is lookup word_field fixed_field bit_field range_field end_field bound_end_field whole_line first_line number_at value_of
    word_of after
    fresh bit_of else_line end_line goto_line test_line kind_line step_line blank mention_at process_of other_end enter
    add_step is_lemmas
    is_comment stepped program_line whole_program_line follow program opened from_line1 program_of whole_line1 without_lemmas then
    target_of aim entered link_step link started at_lemmas filled words bare named_in named lemma whole lemma_line
    lemma_lines
    from_lemmas reading
too_many = refl
