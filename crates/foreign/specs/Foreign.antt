-- The table without its names, and the answer, as C lays them out.
use Rattle.std.specs.Prelude.{◌≡◌, true, false, List, ℕ, ◌*◌, replicate, Result}
use Rattle.job.specs.declared.Job.{Job}
use Rattle.job.specs.declared.Program.{Program}
use Rattle.job.specs.Limits.{max_steps}
use Rattle.job.specs.declared.refusal.Refusal.{Refusal}
use Rattle.job.specs.Answers.{Answer, gives, refuses, answer_of}
use Rattle.reply.specs.Check.{Outcome, accepted, refused}
use Rattle.foreign.specs.declared.Table.{Table}
use Rattle.foreign.specs.declared.Answer.{Answer as AnswerInC}

abbrev pub program_of : Table → Program
program_of t = record {
  bound = t.bound;
  word = t.word;
  steps = t.steps;
  variables = t.variables;
  process = t.process;
  kind = t.kind;
  to = t.to;
  other = t.other;
  variable = t.variable;
  value = t.value;
}

-- the names, which no call looks at, are empty
unfoldable pub job_of : Table → Job
job_of t = record {
  program = program_of t;
  labels = replicate (4 * max_steps) 0;
  names = replicate (4 * max_steps) 0;
  lemmas = t.lemmas;
  lengths = t.lengths;
  items = t.items;
}

-- the program and the job that a table gives
abbrev pub IsProgramOf : Table → Program → Type 0
IsProgramOf t p = p ≡ program_of t

abbrev pub IsJobOf : Table → Job → Type 0
IsJobOf t j = j ≡ job_of t

-- acceptance, with number and place 0, or number and place of a refusal
abbrev pub in_c : Answer (Unit {0}) → AnswerInC
in_c (gives _) = record { accepted = true; number = 0; place = 0 }
in_c (refuses number place) = record { accepted = false; number = number; place = place }

-- what C is given of a result
abbrev pub IsInC : Result (Unit {0}) Refusal → AnswerInC → Type 0
IsInC result answer = answer ≡ in_c (answer_of result)

-- the checker's answer, and its working buffer
abbrev pub answer_in : Outcome → Answer (Unit {0})
answer_in (accepted work) = gives tt
answer_in (refused number place work) = refuses number place

abbrev pub buffer_in : Outcome → List ℕ
buffer_in (accepted work) = work
buffer_in (refused number place work) = work
