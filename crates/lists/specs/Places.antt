-- Where a row of tests first fails, and the first number that is accepted.
use Rattle.std.specs.Prelude.{Bool, not, cond, List, [], ◌∷◌, ℕ, suc, ltb, Option, Some, None}
use Rattle.lists.specs.Rows.{tab}

-- how many tests pass before the first that fails: its place from 0, or their number where none fails
unfoldable pub passing : List Bool → ℕ
passing [] = 0
passing (b ∷ bs) = cond b (suc (passing bs)) 0

-- the first number below n that f accepts, or n
unfoldable pub first : ℕ → (ℕ → Bool) → ℕ
first n f = passing (tab n λ i. not (f i))

-- a place below n, or none
abbrev pub found : ℕ → ℕ → Option ℕ
found n i = cond (ltb i n) (Some i) None
