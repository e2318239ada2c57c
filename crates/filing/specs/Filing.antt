-- Filing as a call (document 02, S-1): its answer, and the buffer after it. 'Turned away: 51 for a buffer shorter than the job, after the
-- reader's refusals.'
use Rattle.std.specs.Prelude.{cond, List, ℕ, ltb, length}
use Rattle.lists.specs.Writing.{write}
use Rattle.job.specs.declared.Job.{Job}
use Rattle.job.specs.Answers.{Answer, gives, refuses}
use Rattle.parse.specs.Reading.{read_job}
use Rattle.form.specs.Form.{form}

-- a call's answer, and what its buffer holds then
pub record Outcome : Type 0 where
  pub answer : Answer ℕ
  pub buffer : List ℕ

-- a refusal changes nothing
abbrev pub refused : ℕ → ℕ → List ℕ → Outcome
refused number place buffer = record { answer = refuses number place; buffer = buffer }

-- bytes past the form are kept
abbrev pub written : List ℕ → List ℕ → Outcome
written part buffer = record { answer = gives (length part); buffer = write buffer 0 part }

-- of an accepted text: 51 for a buffer shorter than the job
abbrev pub filed_as : List ℕ → List ℕ → List ℕ → Outcome
filed_as text part buffer =
    cond (ltb (length buffer) (length text)) (refused 51 0 buffer) (written part buffer)

abbrev pub judged : Answer (Unit {0}) → List ℕ → Job → List ℕ → Outcome
judged (gives _) text J buffer = filed_as text (form text J) buffer
judged (refuses number place) text J buffer = refused number place buffer

unfoldable pub filing : List ℕ → List ℕ → Outcome
filing text buffer = judged (read_job text).answer text (read_job text).table buffer
