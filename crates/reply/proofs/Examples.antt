-- 01's reply and the examples of its refusal table, answered by the definition: N = 10, as in 'A job in full'.
use mathlib.Core.Path.{◌≡◌, refl}
use mathlib.Core.List.{List, [], ◌∷◌}
use Prim.Native.Nat.{ℕ}
use lib.IntN.{negsuc}
use lib.ListN.{replicate}
use Prim.Native.Char.{code}
use Prim.Native.String.{String}
use Prim.Native.String.{[] as end, ◌∷◌ as ◌then◌}
use Rattle.lists.specs.Rows.{each}
use Rattle.lists.specs.Tests.{every, all, within}
use Rattle.lists.specs.Places.{passing, first}
use Rattle.lists.specs.Pieces.{cut, starts, is}
use Rattle.lists.specs.Numerals.{digits_below, numeral}
use Rattle.job.specs.declared.Job.{Job}
use Rattle.job.specs.declared.Literal.TheVariants.{On, Off}
use Rattle.job.specs.Words.{start, crash}
use Rattle.job.specs.Table as table
use Rattle.job.specs.Numbering as numbering
use Rattle.job.specs.Exclusion as exclusion
use Rattle.job.specs.Clauses as clauses
use Rattle.job.specs.Fitness as fitness
use Rattle.job.specs.Satisfaction as satisfaction
use Rattle.job.specs.OneBit.{one_bit, reply}
use Rattle.job.specs.FitCases.{worded_table}
use Rattle.tokens.specs.Numbers.{front, decimal, allowed, unsigned, token}
use Rattle.reply.specs.Said.{says}
use Rattle.tokens.specs.Kinds.{satisfiable, unsatisfiable}
use Rattle.reply.specs.Lines.{opening, say_in, numbers_in, value_line_in, value_lines_in, closing}
use Rattle.reply.specs.Reply.{Read, refusal, values, heard_in, values_read}
use Rattle.reply.specs.Check.{accepted, refused, checked}
use Rattle.reply.specs.Acceptance.{Lists, times}
use Rattle.reply.specs.PlainReply.{signed_numeral, numbers_from, plain_reply}

unfoldable bytes : String → List ℕ
bytes end = []
bytes (c then cs) = code c ∷ bytes cs

unfoldable read : String → Read
read text = values_read 10 (bytes text)

names : (satisfiable ≡ bytes "s SATISFIABLE") × (unsatisfiable ≡ bytes "s UNSATISFIABLE")
unfolding bytes
names = (refl, refl)

-- case 5's reply, in one line, in three, and with comments
given :
    (read "s SATISFIABLE\nv 1 2 -3 4 5 6 7 -8 -9 10 0\n" ≡ values (1 ∷ 1 ∷ 0 ∷ 1 ∷ 1 ∷ 1 ∷ 1 ∷ 0 ∷ 0 ∷ 1 ∷ []))
    × (read "s SATISFIABLE\nv 10 -9 -8 7\nv 6 5 4 -3 2 1\nv 0\n" ≡ values (1 ∷ 1 ∷ 0 ∷ 1 ∷ 1 ∷ 1 ∷ 1 ∷ 0 ∷ 0 ∷ 1 ∷ []))
    × (read "c x\ns SATISFIABLE\nc\nv 1 2 -3 4 5 6 7\ncc\nv -8 -9 10 0\nc y\n" ≡ values (1 ∷ 1 ∷ 0 ∷ 1 ∷ 1 ∷ 1 ∷ 1 ∷ 0 ∷ 0 ∷ 1 ∷ []))
unfolding bytes read each every within passing first cut starts is front decimal allowed unsigned token says opening say_in numbers_in
    value_line_in value_lines_in closing heard_in values_read
given = (refl, refl, refl)

-- the plain reply of its values is that one line
plain : plain_reply reply ≡ bytes "s SATISFIABLE\nv 1 2 -3 4 5 6 7 -8 -9 10 0\n"
unfolding bytes plain_reply numbers_from signed_numeral numeral digits_below
plain = refl

-- what a reply in 01's form lists, the last first: also a number past N, also a number twice
listing :
    Lists (bytes "s SATISFIABLE\nv 11 -1\nv 1 0\n") (On 0 ∷ Off 0 ∷ On 10 ∷ [])
    × (times 0 (On 0 ∷ Off 0 ∷ On 10 ∷ []) ≡ 2)
unfolding bytes every within cut starts is front decimal allowed unsigned token opening say_in numbers_in value_line_in value_lines_in
    closing heard_in times
listing = (refl, refl)

-- 61: the first line that is not `c`, and what is missing at the end
opened :
    (read "" ≡ refusal 61 1)
    × (read "c\n" ≡ refusal 61 2)
    × (read "c" ≡ refusal 61 1)
    × (read "\ns SATISFIABLE\n" ≡ refusal 61 1)
    × (read "s SATISFIABLE" ≡ refusal 61 1)
    × (read "s SATISFIABLE \n" ≡ refusal 61 1)
    × (read "s UNKNOWN\n" ≡ refusal 61 1)
    × (read "v 1 0\n" ≡ refusal 61 1)
    × (read "s SATISFIABLE\n" ≡ refusal 61 2)
    × (read "s SATISFIABLE\nv 1 2\n" ≡ refusal 61 3)
    × (read "s SATISFIABLE\nv 1 2" ≡ refusal 61 2)
    × (read "s SATISFIABLE\ns SATISFIABLE\n" ≡ refusal 61 2)
    × (read "s SATISFIABLE\ns UNSATISFIABLE\n" ≡ refusal 61 2)
unfolding bytes read each every within passing first cut starts is front decimal allowed unsigned token says opening say_in numbers_in
    value_line_in value_lines_in closing heard_in values_read
opened = (refl, refl, refl, refl, refl, refl, refl, refl, refl, refl, refl, refl, refl)

-- 66, and no 66 without its LF
unsatisfied :
    (read "s UNSATISFIABLE\n" ≡ refusal 66 1)
    × (read "c x\ns UNSATISFIABLE\nrubbish" ≡ refusal 66 2)
    × (read "s UNSATISFIABLE" ≡ refusal 61 1)
unfolding bytes read each every within passing first cut starts is front decimal allowed unsigned token says opening say_in numbers_in
    value_line_in value_lines_in closing heard_in values_read
unsatisfied = (refl, refl, refl)

-- numbers: 62 before 63, and the digits before what stands behind them
numbers :
    (read "s SATISFIABLE\nv 11 0\n" ≡ refusal 62 2)
    × (read "s SATISFIABLE\nv 11 x 0\n" ≡ refusal 62 2)
    × (read "s SATISFIABLE\nv 11x\n" ≡ refusal 62 2)
    × (read "s SATISFIABLE\nv -11" ≡ refusal 62 2)
    × (read "s SATISFIABLE\nv 9999999 0\n" ≡ refusal 62 2)
    × (read "s SATISFIABLE\nv 12345678 0\n" ≡ refusal 61 2)
    × (read "s SATISFIABLE\nv 1 -1 0\n" ≡ refusal 63 2)
    × (read "s SATISFIABLE\nv 1 1 11 0\n" ≡ refusal 63 2)
    × (read "s SATISFIABLE\nv 1 11 1 0\n" ≡ refusal 62 2)
    × (read "s SATISFIABLE\nv 1 1x\n" ≡ refusal 63 2)
    × (read "s SATISFIABLE\nv 1\nc\nv 2 1\n" ≡ refusal 63 4)
    × (read "s SATISFIABLE\nv 01 0\n" ≡ refusal 61 2)
    × (read "s SATISFIABLE\nv -0\n" ≡ refusal 61 2)
    × (read "s SATISFIABLE\nv +1 0\n" ≡ refusal 61 2)
    × (read "s SATISFIABLE\nv 1x 0\n" ≡ refusal 61 2)
unfolding bytes read each every within passing first cut starts is front decimal allowed unsigned token says opening say_in numbers_in
    value_line_in value_lines_in closing heard_in values_read
numbers = (refl, refl, refl, refl, refl, refl, refl, refl, refl, refl, refl, refl, refl, refl, refl)

-- spaces, and what follows the closing 0
closed :
    (read "s SATISFIABLE\nv\n" ≡ refusal 61 2)
    × (read "s SATISFIABLE\nv  1 0\n" ≡ refusal 61 2)
    × (read "s SATISFIABLE\nv 1 2 0 \n" ≡ refusal 61 2)
    × (read "s SATISFIABLE\nv 1 0 2\n" ≡ refusal 61 2)
    × (read "s SATISFIABLE\nv 1 2 -3 4 5 6 7 -8 -9 10 0" ≡ refusal 61 2)
    × (read "s SATISFIABLE\nv 1 0\nv 2 0\n" ≡ refusal 61 3)
    × (read "s SATISFIABLE\nv 1 0\n\n" ≡ refusal 61 3)
    × (read "s SATISFIABLE\nv 1 0\nc" ≡ refusal 61 3)
unfolding bytes read each every within passing first cut starts is front decimal allowed unsigned token says opening say_in numbers_in
    value_line_in value_lines_in closing heard_in values_read
closed = (refl, refl, refl, refl, refl, refl, refl, refl)

-- 64: the smallest that is missing
missed :
    (read "s SATISFIABLE\nv 1 0\n" ≡ refusal 64 2)
    × (read "s SATISFIABLE\nv 0\nc\n" ≡ refusal 64 1)
    × (read "s SATISFIABLE\nv 1 2 -3 4 5 6 7 -8 -9 0\n" ≡ refusal 64 10)
unfolding bytes read each every within passing first cut starts is front decimal allowed unsigned token says opening say_in numbers_in
    value_line_in value_lines_in closing heard_in values_read
missed = (refl, refl, refl)

-- the same table with a word
abbrev worded : ℕ → Job
worded word = worded_table word 1 2 1 [] ((1 ∷ 2 ∷ []) ∷ (3 ∷ 1 ∷ []) ∷ (1 ∷ 2 ∷ []) ∷ [] ∷ (1 ∷ 0 ∷ []) ∷ (1 ∷ 0 ∷ []) ∷ [])

-- 01's job with its reply (marked case 5), with −7 (6), with lemma `~a` (7); 45 of a table with bound 0; 51 of a short buffer;
-- the job with `start` (02, S-2), and with `crash`: no step of A is critical, so its clause is empty, and false whatever the values
judged :
    (checked (one_bit 1 0 [] []) (bytes "s SATISFIABLE\nv 1 2 -3 4 5 6 7 -8 -9 10 0\n") (replicate 12 9)
    ≡ accepted (1 ∷ 1 ∷ 0 ∷ 1 ∷ 1 ∷ 1 ∷ 1 ∷ 0 ∷ 0 ∷ 1 ∷ 9 ∷ 9 ∷ []))
    × (checked (one_bit 1 0 [] []) (bytes "s SATISFIABLE\nv 1 2 -3 4 5 6 -7 -8 -9 10 0\n") (replicate 12 9)
    ≡ refused 65 9 (1 ∷ 1 ∷ 0 ∷ 1 ∷ 1 ∷ 1 ∷ 0 ∷ 0 ∷ 0 ∷ 1 ∷ 9 ∷ 9 ∷ []))
    × (checked (one_bit 1 1 (1 ∷ []) (negsuc 2 ∷ [])) (bytes "s SATISFIABLE\nv 1 2 -3 4 5 6 7 -8 -9 10 0\n") (replicate 10 9)
    ≡ refused 65 20 (1 ∷ 1 ∷ 0 ∷ 1 ∷ 1 ∷ 1 ∷ 1 ∷ 0 ∷ 0 ∷ 1 ∷ []))
    × (checked (one_bit 1 0 [] []) (bytes "s SATISFIABLE\nv 1 0\n") (replicate 11 9)
    ≡ refused 64 2 (0 ∷ 0 ∷ 0 ∷ 0 ∷ 0 ∷ 0 ∷ 0 ∷ 0 ∷ 0 ∷ 0 ∷ 9 ∷ []))
    × (checked (one_bit 0 0 [] []) (bytes "") (replicate 11 9) ≡ refused 45 0 (replicate 11 9))
    × (checked (one_bit 1 0 [] []) (bytes "") (replicate 9 9) ≡ refused 51 0 (replicate 9 9))
    × (checked (worded start) (bytes "s SATISFIABLE\nv 1 2 -3 4 5 6 7 -8 -9 10 0\n") (replicate 10 9)
    ≡ accepted (1 ∷ 1 ∷ 0 ∷ 1 ∷ 1 ∷ 1 ∷ 1 ∷ 0 ∷ 0 ∷ 1 ∷ []))
    × (checked (worded crash) (bytes "s SATISFIABLE\nv 1 2 -3 4 5 6 7 -8 -9 10 0\n") (replicate 10 9)
    ≡ refused 65 22 (1 ∷ 1 ∷ 0 ∷ 1 ∷ 1 ∷ 1 ∷ 1 ∷ 0 ∷ 0 ∷ 1 ∷ []))
unfolding bytes one_bit worded_table each every all within passing first cut starts is front decimal allowed unsigned token says opening
    say_in numbers_in value_line_in value_lines_in closing heard_in values_read checked fitness.larger fitness.is_step fitness.other_fits
    fitness.variable_fits fitness.value_fits fitness.used_step fitness.unused_step fitness.mentioned fitness.step_fits fitness.steps_fit
    table.first_of fitness.both_start fitness.both_critical fitness.program_fits fitness.item_fits fitness.place_fits fitness.length_fits
    fitness.places_fit fitness.lemma_fits fitness.lemmas_fit fitness.fit exclusion.exclusion exclusion.excluding numbering.helpers_for
    numbering.pairs_below numbering.helpers numbering.item numbering.turn numbering.helper numbering.difference numbering.total
    table.action_of table.process table.action table.own_below table.lemma clauses.some_step clauses.excludes clauses.leads clauses.turns
    clauses.assigning clauses.assignments clauses.variables clauses.differ clauses.between clauses.lemma_clauses clauses.start_clauses
    clauses.some_critical clauses.word_clauses clauses.free_clauses clauses.clauses satisfaction.false_clause
judged = (refl, refl, refl, refl, refl, refl, refl, refl)
