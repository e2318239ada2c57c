-- A reading as C lays it out: acceptance, with number and place 0, or number and place of a refusal; and the table, flat.
use Rattle.std.specs.Prelude.{◌≡◌, Bool, true, false, ℕ, Result}
use Rattle.job.specs.declared.Job.{Job}
use Rattle.job.specs.declared.refusal.Refusal.{Refusal}
use Rattle.job.specs.Answers.{Answer, gives, refuses, answer_of}
use Rattle.parse.specs.Answers.{forgotten, table_of}
use Rattle.parse.specs.Reading.{Outcome}
use Rattle.parse_ffi.specs.declared.Answer.{Answer as AnswerInC}

abbrev pub flat : Bool → ℕ → ℕ → Job → AnswerInC
flat accepted number place j = record {
  accepted = accepted;
  number = number;
  place = place;
  bound = j.program.bound;
  word = j.program.word;
  steps = j.program.steps;
  variables = j.program.variables;
  process = j.program.process;
  kind = j.program.kind;
  to = j.program.to;
  other = j.program.other;
  variable = j.program.variable;
  value = j.program.value;
  labels = j.labels;
  names = j.names;
  lemmas = j.lemmas;
  lengths = j.lengths;
  items = j.items;
}

abbrev pub answered : Answer (Unit {0}) → Job → AnswerInC
answered (gives _) j = flat true 0 0 j
answered (refuses number place) j = flat false number place j

abbrev pub in_c : Outcome → AnswerInC
in_c o = answered o.answer o.table

-- what C is given of an accepted table, and of a reading
abbrev pub IsFlat : Job → AnswerInC → Type 0
IsFlat j answer = answer ≡ flat true 0 0 j

abbrev pub IsInC : Result Job Refusal → AnswerInC → Type 0
IsInC read answer = answer ≡ in_c (record { answer = forgotten (answer_of read); table = table_of read })
