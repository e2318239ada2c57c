-- The text of clauses (document 01, 'A job in full'): a line each, its numbers and the closing 0.
use Rattle.std.specs.Prelude.{List, [], ◌∷◌, ◌++◌, ℕ, zero, suc, ◌+◌, ℤ, pos, negsuc, get_or}
use Rattle.lists.specs.Numerals.{numeral}
use Rattle.text.specs.Bytes.{lf, space, minus}

-- a number and a space; the 0 that closes a clause and a line feed
unfoldable pub told : ℤ → List ℕ
told (pos zero) = numeral 0 ++ (lf ∷ [])
told (pos (suc x)) = numeral (suc x) ++ (space ∷ [])
told (negsuc x) = minus ∷ numeral (suc x) ++ (space ∷ [])

-- its room: a sign, ten digits of a number of 32 bits, the byte behind them
abbrev pub number_room : ℕ
number_room = 1 + 10 + 1

-- the text of number i
abbrev pub number_text : List ℤ → ℕ → List ℕ
number_text xs i = told (get_or xs i (pos 0))

-- numbers one behind the other
unfoldable pub numbers_text : List ℤ → List ℕ
numbers_text [] = []
numbers_text (x ∷ xs) = told x ++ numbers_text xs
