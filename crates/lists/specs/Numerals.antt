-- Numbers in decimal.
use Rattle.std.specs.Prelude.{Bool, true, false, List, [], ◌∷◌, ◌++◌, ℕ, zero, suc, ◌+◌, ◌/◌, ◌%◌, ltb}

-- the byte of a digit
abbrev pub digit : ℕ → ℕ
digit d = 48 + d

-- the digits of y, where there are any
abbrev pub higher : Bool → (ℕ → List ℕ) → ℕ → List ℕ
higher true digits y = []
higher false digits y = digits y

-- the digits of x, which is below k: those of x / 10, and the last
unfoldable pub digits_below : ℕ → ℕ → List ℕ
digits_below zero x = []
digits_below (suc k) x = higher (ltb x 10) (digits_below k) (x / 10) ++ (digit (x % 10) ∷ [])

-- a number in decimal
unfoldable pub numeral : ℕ → List ℕ
numeral x = digits_below (suc x) x
