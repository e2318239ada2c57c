-- What the second program prints of a job text and a reply (document 01, 'A job in full'): the reader's refusal, 52, the checker's
-- refusal, that of reading off, or else the run.
use Rattle.std.specs.Prelude.{◌||◌, cond, List, ℕ, suc, ◌+◌, ◌*◌, ltb, length}
use Rattle.lists.specs.Rows.{each}
use Rattle.job.specs.declared.Job.{Job}
use Rattle.job.specs.Limits.{max_bound, max_steps}
use Rattle.job.specs.Table.{r}
use Rattle.job.specs.Numbering.{total}
use Rattle.parse.specs.Reading.{read_job}
use Rattle.reply.specs.Check.{Outcome, accepted, refused, checked}
use Rattle.readoff.specs.ReadingOff.{reading_off}
use Rattle.text.specs.RunText.{run_line_room, run_line}
use Rattle.text.specs.Lines.{refusal_line}
use Rattle.outputs.specs.Printing.{or_refusal, zeros}

-- 52: 'N or reply over 32,768'
abbrev pub max_shown : ℕ
max_shown = 32768

-- (r+1)(n+3) bytes are no more
abbrev pub run_room : ℕ
run_room = suc max_bound * (max_steps + 3)

-- 'time, steps, bits, turn', of values that were accepted
unfoldable pub run_text : Job → List ℕ → List ℕ
run_text J values =
    let read = reading_off J values (zeros run_room) in
    or_refusal read.answer λ _. each (suc (r J.program)) (run_line J read.buffer)

abbrev pub checked_text : Job → Outcome → List ℕ
checked_text J (accepted values) = run_text J values
checked_text J (refused number place values) = refusal_line number place

unfoldable pub reply_text : Job → List ℕ → List ℕ
reply_text J reply =
    cond (ltb max_shown (total J.program) || ltb max_shown (length reply)) (refusal_line 52 0)
    (checked_text J (checked J reply (zeros max_shown)))

unfoldable pub shown : List ℕ → List ℕ → List ℕ
shown job reply = or_refusal (read_job job).answer λ _. reply_text (read_job job).table reply

-- its room: r+1 lines, of n variables each
abbrev pub shown_room : ℕ
shown_room = suc max_bound * run_line_room max_steps
