-- Document 02, S-1, on two closed texts: a comment, spaces, repeats, both signs and an extension; and a job with a word, whose only lemma
-- is dropped.
use mathlib.Core.Path.{◌≡◌, refl}
use mathlib.Core.List.{List, [], ◌∷◌}
use Prim.Native.Nat.{ℕ}
use Prim.Native.Char.{code}
use Prim.Native.String.{String}
use Prim.Native.String.{[] as end, ◌∷◌ as ◌then◌}
use Rattle.lists.specs.Rows.{each}
use Rattle.lists.specs.Tests.{every, all, within}
use Rattle.lists.specs.Places.{passing, first}
use Rattle.job.specs.Table.{first_of}
use Rattle.job.specs.Fitness.{both_critical}
use Rattle.lists.specs.Pieces.{cut, up_to, starts, is}
use Rattle.scan.specs.Bytes.{all_of, alnum, headed}
use Rattle.scan.specs.Lines.{rows, lines}
use Rattle.scan.specs.Names.{entry_is, lookup}
use Rattle.fields.specs.Fields.{word_field, fixed_field, bit_field, range_field, end_field, bound_end_field, whole_line}
use Rattle.lines.specs.FirstLine.{after, first_line, number_at, value_of, word_of}
use Rattle.lines.specs.StepLine.{fresh, bit_of, else_line, end_line, goto_line, test_line, kind_line, step_line}
use Rattle.items.specs.Items.{named_in}
use Rattle.program.specs.Draft.{blank, mention_at, process_of, other_end, enter, add_step}
use Rattle.program.specs.ProgramLine.{is_lemmas, is_comment, stepped, program_line}
use Rattle.program.specs.ProgramLine.{whole as whole_program_line}
use Rattle.program.specs.Program.{follow, program, opened, from_line1, program_of}
use Rattle.program.specs.Program.{whole as whole_line1}
use Rattle.parse.specs.Answers.{without_lemmas, then}
use Rattle.parse.specs.Labels.{target_of, aim, entered, link_step, link, started, at_lemmas}
use Rattle.parse.specs.Lemmas.{filled, words, bare, named, lemma, whole, lemma_line, lemma_lines}
use Rattle.parse.specs.Reading.{from_lemmas, reading}
use Rattle.order.specs.Sorting.{insert, sort, from_left, keep}
use Rattle.job.specs.Literals.{has}
use Rattle.job.specs.Table.{lemma as lemma_at}
use Rattle.put.specs.Names.{name_at}
use Rattle.form.specs.Lemmas.{both_signs, remaining, filed}
use Rattle.form.specs.Form.{kept, name_of, spelt, spaced, ended, form}
use Rattle.form.specs.OneForm.{form_of}

unfoldable bytes : String → List ℕ
bytes end = []
bytes (c then cs) = code c ∷ bytes cs

-- the form of the text a is b
abbrev filed_as : String → String → Type 0
filed_as a b = form_of (bytes a) ≡ bytes b

one_bit : filed_as
    "bound 1\n~ one bit\nA0 a=1 goto A0\nB0 maybe goto B0\nlemmas\n~a  A0 a\nB0 A0  B0\n A0 B0\nA0\n~A0\na ~B0 ~B0\n"
    "bound 1\nA0 a=1 goto A0\nB0 maybe goto B0\nlemmas\nA0\nA0 B0\n~A0\n~B0 a\n"
unfolding bytes remaining filed both_signs has sort insert from_left keep kept name_of spelt spaced ended form name_at lemma_at every all
    within each passing first first_of both_critical cut up_to all_of starts is alnum headed rows lines entry_is lookup word_field
    fixed_field bit_field range_field end_field bound_end_field whole_line after first_line number_at value_of word_of fresh bit_of
    else_line end_line goto_line test_line kind_line step_line blank mention_at process_of other_end enter add_step is_lemmas is_comment
    stepped program_line whole_program_line follow program opened from_line1 program_of whole_line1 without_lemmas then target_of aim
    entered link_step link started at_lemmas filled words bare named_in named lemma whole lemma_line lemma_lines
    from_lemmas reading
one_bit = refl

all_dropped : filed_as
    "bound 12 crash\nA0 maybe goto A0\n~\nB0 critical goto B0\nlemmas\nA0 ~A0\n"
    "bound 12 crash\nA0 maybe goto A0\nB0 critical goto B0\nlemmas\n"
unfolding bytes remaining filed both_signs has sort insert from_left keep kept name_of spelt spaced ended form name_at lemma_at every all
    within each passing first first_of both_critical cut up_to all_of starts is alnum headed rows lines entry_is lookup word_field
    fixed_field bit_field range_field end_field bound_end_field whole_line after first_line number_at value_of word_of fresh bit_of
    else_line end_line goto_line test_line kind_line step_line blank mention_at process_of other_end enter add_step is_lemmas is_comment
    stepped program_line whole_program_line follow program opened from_line1 program_of whole_line1 without_lemmas then target_of aim
    entered link_step link started at_lemmas filled words bare named_in named lemma whole lemma_line lemma_lines
    from_lemmas reading
all_dropped = refl
