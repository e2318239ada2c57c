-- Rows over the numbers below n, growing at the end, as a loop writes them.
use Rattle.std.specs.Prelude.{List, [], ◌∷◌, ◌++◌, ℕ, zero, suc, ◌+◌, get_or}

-- g 0, g 1, .. g (n - 1), one behind the other
unfoldable pub each {ℓ} : {T : Type ℓ} → ℕ → (ℕ → List T) → List T
each zero g = []
each (suc n) g = each n g ++ g n

-- f 0, f 1, .. f (n - 1)
abbrev pub tab {ℓ} : {T : Type ℓ} → ℕ → (ℕ → T) → List T
tab n f = each n λ i. f i ∷ []

-- f 0 + f 1 + .. + f (n - 1)
unfoldable pub sum : ℕ → (ℕ → ℕ) → ℕ
sum zero f = 0
sum (suc n) f = sum n f + f n

-- place i of a list of numbers, 0 past its end
abbrev pub num : List ℕ → ℕ → ℕ
num xs i = get_or xs i 0
