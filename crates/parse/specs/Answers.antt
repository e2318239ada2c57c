-- The answers of reading: 'a refused job gives one of zeros; every other job is accepted' (document 01, 'Calls and buffers').
use Rattle.std.specs.Prelude.{ℕ, ◌*◌, pos, replicate, Result, Ok, Err}
use Rattle.job.specs.Limits.{max_lemmas, max_names}
use Rattle.job.specs.Words.{no_word}
use Rattle.job.specs.Answers.{Answer, gives, refuses}
use Rattle.job.specs.Faults.{refusal_at}
use Rattle.job.specs.declared.Job.{Job}
use Rattle.job.specs.declared.Program.{Program}
use Rattle.job.specs.declared.refusal.Fault.{Fault}
use Rattle.job.specs.declared.refusal.Refusal.{Refusal}
use Rattle.program.specs.Draft.{blank}
use Rattle.program.specs.declared.Draft.{Draft}

-- no lemma yet: the draft's names with a program
unfoldable pub without_lemmas : Draft → Program → Job
without_lemmas d P = record {
  program = P;
  labels = d.labels;
  names = d.names;
  lemmas = 0;
  lengths = replicate max_lemmas 0;
  items = replicate (max_lemmas * max_names) (pos 0);
}

-- the table of zeros
abbrev pub zeros : Job
zeros = without_lemmas (blank 0 no_word) (blank 0 no_word).program

-- the table that is given: that of a job that is accepted, or the one of zeros
abbrev pub table_of : Result Job Refusal → Job
table_of (Ok j) = j
table_of (Err r) = zeros

-- the answer without the table
abbrev pub forgotten : {T : Type 0} → Answer T → Answer (Unit {0})
forgotten (gives x) = gives tt
forgotten (refuses number place) = refuses number place

abbrev pub refuse : {T : Type 0} → Fault → ℕ → Result T Refusal
refuse fault place = Err (refusal_at fault place)

-- what is read so far goes on, or is refused
unfoldable pub then : {S T : Type 0} → Result S Refusal → (S → Result T Refusal) → Result T Refusal
then (Ok x) rest = rest x
then (Err r) rest = Err r
