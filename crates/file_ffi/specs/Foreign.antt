-- The answer of filing as C lays it out: a length, or number and place of a refusal; what does not apply is 0.
use Rattle.std.specs.Prelude.{◌≡◌, true, false, ℕ, Result}
use Rattle.job.specs.declared.refusal.Refusal.{Refusal}
use Rattle.job.specs.Answers.{Answer, gives, refuses, answer_of}
use Rattle.file_ffi.specs.declared.Answer.{Answer as AnswerInC}

abbrev pub in_c : Answer ℕ → AnswerInC
in_c (gives n) = record { accepted = true; number = 0; place = 0; length = n }
in_c (refuses number place) = record { accepted = false; number = number; place = place; length = 0 }

-- what C is given of a result
abbrev pub IsInC : Result ℕ Refusal → AnswerInC → Type 0
IsInC filed answer = answer ≡ in_c (answer_of filed)
