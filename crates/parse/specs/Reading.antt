-- Reading a job (document 01, 'The job text', 'What is turned away').
use Rattle.std.specs.Prelude.{ℕ, List, drop, Result}
use Rattle.job.specs.Answers.{Answer, answer_of}
use Rattle.job.specs.declared.Job.{Job}
use Rattle.job.specs.declared.refusal.Refusal.{Refusal}
use Rattle.scan.specs.Lines.{lines}
use Rattle.program.specs.Program.{program_of}
use Rattle.program.specs.declared.ProgramPart.{ProgramPart}
use Rattle.parse.specs.Answers.{forgotten, table_of, then}
use Rattle.parse.specs.Labels.{at_lemmas}
use Rattle.parse.specs.Lemmas.{lemma_lines}

-- a line is `lemmas`, and the lemma lines begin behind it
unfoldable pub from_lemmas : List ℕ → ProgramPart → Result Job Refusal
from_lemmas text part = then (at_lemmas part.draft part.line) λ j. lemma_lines j part.line (lines (drop part.at text))

-- 1 first, line 1, the program lines, the checks at `lemmas`, and then the lemma lines
unfoldable pub reading : List ℕ → Result Job Refusal
reading text = then (program_of text) (from_lemmas text)

-- ---- the call: 'Reading gives the job's table' .. 'a refused job gives one of zeros; every other job is accepted'

pub record Outcome : Type 0 where
  pub answer : Answer (Unit {0})
  pub table : Job

unfoldable pub read_job : List ℕ → Outcome
read_job text = record { answer = forgotten (answer_of (reading text)); table = table_of (reading text) }
