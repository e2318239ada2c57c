-- One place of a list is written: that place has the new number, every other keeps its own.
use mathlib.Core.Path.{◌≡◌, refl}
use mathlib.Core.List.{List}
use Prim.Native.Nat.{ℕ, zero, suc, ◌<◌}
use lib.ListN.{length, get_or, set, replicate, length-set}
use lib.Seq.{get_or-set_same, get_or-set_other}
use Rattle.lists.specs.Rows.{num}

abbrev pub Put : List ℕ → List ℕ → ℕ → ℕ → Type 0
Put l m k x = (length m ≡ length l) × (num m k ≡ x) × ((c : ℕ) → (c ≡ k → ⊥) → num m c ≡ num l c)

pub put_set : (l : List ℕ) (k x : ℕ) → k < length l → Put l (set l k x) k x
put_set l k x h = (length-set l k x, get_or-set_same l k x 0 h, λ c n. get_or-set_other l k c x 0 n)

-- what is there already
pub put_none : (l : List ℕ) (k x : ℕ) → num l k ≡ x → Put l l k x
put_none l k x e = (refl, e, λ c n. refl)

-- a list of one value has it at each place, and past its end by default
pub same_at {ℓ} : {A : Type ℓ} (n i : ℕ) (a : A) → get_or (replicate n a) i a ≡ a
same_at zero zero a = refl
same_at zero (suc i) a = refl
same_at (suc n) zero a = refl
same_at (suc n) (suc i) a = same_at n i a
