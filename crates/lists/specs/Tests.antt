-- Tests: several at once, and one test of every number below n.
use Rattle.std.specs.Prelude.{Bool, true, ◌&&◌, List, [], ◌∷◌, ℕ, zero, suc, leb}

-- all of these pass
unfoldable pub every : List Bool → Bool
every [] = true
every (b ∷ []) = b
every (b ∷ c ∷ bs) = b && every (c ∷ bs)

-- f passes for each number below n
unfoldable pub all : ℕ → (ℕ → Bool) → Bool
all zero f = true
all (suc n) f = all n f && f n

-- lo ≤ x ≤ hi
unfoldable pub within : ℕ → ℕ → ℕ → Bool
within lo hi x = every (leb lo x ∷ leb x hi ∷ [])
