-- What is printed of an answer, and how a text is handed to the program that writes it.
use Rattle.std.specs.Prelude.{◌≡◌, List, ℕ, length, replicate, Result, Ok, Err}
use Rattle.lists.specs.Writing.{write}
use Rattle.job.specs.Answers.{Answer, gives, refuses}
use Rattle.job.specs.declared.refusal.Refusal.{Refusal}
use Rattle.text.specs.Lines.{refusal_line, refused}

-- 'A refusal prints `refused 12 at 4` alone.'
abbrev pub or_refusal : {T : Type 0} → Answer T → (T → List ℕ) → List ℕ
or_refusal (gives x) text = text x
or_refusal (refuses number place) text = refusal_line number place

-- a row of zeros
unfoldable pub zeros : ℕ → List ℕ
zeros n = replicate n 0

-- n bytes at the front of an array are the text; behind them it has zeros
pub record Holds (room : ℕ) (text array : List ℕ) (n : ℕ) : Type 0 where
  pub size : n ≡ length text
  pub bytes : array ≡ write (zeros room) 0 text

-- ---- how the code comes to it

-- the text stands in the buffer; or it is the line of a refusal, for which the buffer is as it was
abbrev pub Shows : List ℕ → Result ℕ Refusal → List ℕ → List ℕ → Type 0
Shows text (Ok n) old new = (n ≡ length text) × (new ≡ write old 0 text)
Shows text (Err r) old new = (refused r ≡ text) × (new ≡ old)

-- what was made is kept, and a refusal becomes its line
abbrev pub Prints : Result ℕ Refusal → List ℕ → ℕ → List ℕ → Type 0
Prints (Ok k) old n new = (n ≡ k) × (new ≡ old)
Prints (Err r) old n new = (n ≡ length (refused r)) × (new ≡ write old 0 (refused r))
