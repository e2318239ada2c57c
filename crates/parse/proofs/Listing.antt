-- From 01's text to its listing: the clauses of the table that reading gives, evaluated, are the 18 of 'A job in full'.
use mathlib.Core.Path.{◌≡◌, refl}
use mathlib.Core.List.{map}
use Rattle.lists.specs.Rows.{each}
use Rattle.lists.specs.Tests.{every, all, within}
use Rattle.lists.specs.Places.{passing, first}
use Rattle.lists.specs.Pieces.{cut, up_to, starts, is}
use Rattle.job.specs.Literals.{signed}
use Rattle.job.specs.Table as table
use Rattle.job.specs.Numbering as numbering
use Rattle.job.specs.Exclusion as exclusion
use Rattle.job.specs.Clauses as clauses
use Rattle.job.specs.Fitness.{both_critical}
use Rattle.job.proofs.OneBitListing as listing
use Rattle.scan.specs.Bytes.{all_of, alnum, headed}
use Rattle.scan.specs.Lines.{rows, lines}
use Rattle.scan.specs.Names.{entry_is, lookup}
use Rattle.fields.specs.Fields.{word_field, fixed_field, bit_field, range_field, end_field, bound_end_field, whole_line}
use Rattle.lines.specs.FirstLine as first-line
use Rattle.lines.specs.StepLine as step_line
use Rattle.program.specs.Draft as draft
use Rattle.program.specs.ProgramLine as program_line_lem
use Rattle.program.specs.Program as program
use Rattle.parse.specs.Answers.{table_of, without_lemmas, then}
use Rattle.parse.specs.Labels as labels
use Rattle.parse.specs.Lemmas.{lemma_lines}
use Rattle.parse.specs.Reading.{from_lemmas, reading}
use Rattle.parse.proofs.Examples.{bytes, one_bit}

listed : map (map signed) (clauses.clauses (table_of (reading (bytes one_bit)))) ≡ listing.clauses
unfolding bytes every all within each passing first both_critical cut up_to all_of starts is alnum headed rows lines entry_is lookup
    word_field fixed_field bit_field range_field end_field bound_end_field whole_line
    first-line.first_line first-line.number_at first-line.value_of first-line.word_of first-line.after
    step_line.fresh step_line.bit_of step_line.else_line step_line.end_line step_line.goto_line step_line.test_line step_line.kind_line
    step_line.step_line
    draft.blank draft.mention_at draft.process_of draft.other_end draft.enter draft.add_step
    program_line_lem.is_lemmas program_line_lem.is_comment program_line_lem.stepped program_line_lem.program_line
    program_line_lem.whole
    program.follow program.program program.opened program.from_line1 program.program_of program.whole
    without_lemmas then labels.target_of labels.aim labels.entered labels.link_step labels.link labels.started
    labels.at_lemmas lemma_lines from_lemmas reading
    exclusion.exclusion exclusion.excluding numbering.helpers_for numbering.pairs_below numbering.helpers numbering.item numbering.turn
    numbering.helper numbering.difference table.action_of table.process table.action table.own_below table.first_of table.lemma
    clauses.some_step clauses.excludes clauses.leads clauses.turns clauses.assigning clauses.assignments clauses.variables
    clauses.differ clauses.between clauses.lemma_clauses clauses.free_clauses clauses.word_clauses clauses.clauses
listed = refl
