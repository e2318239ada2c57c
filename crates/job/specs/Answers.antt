-- What a call of document 01 answers: what it gives, or the number and place of a refusal ('What is turned away'). `answer_of` says which
-- of these a call's result is; the promises speak of it.
use Rattle.std.specs.Prelude.{ℕ, Result, Ok, Err}
use Rattle.job.specs.Faults.{number_of}
use Rattle.job.specs.declared.refusal.Refusal.{Refusal}

pub data Answer (T : Type 0) : Type 0 where
  gives : T → Answer T
  refuses : ℕ → ℕ → Answer T

abbrev pub answer_of : {T : Type 0} → Result T Refusal → Answer T
answer_of (Ok x) = gives x
answer_of (Err r) = refuses (number_of r.fault) r.place
