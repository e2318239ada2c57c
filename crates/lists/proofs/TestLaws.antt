-- Laws of tests: what passes when several do, and one law for each way out of a loop of tests.
use mathlib.Core.Path.{◌≡◌, refl, sym, ap, ◌∙◌}
use mathlib.Core.Bool.{Bool, true, false, ◌&&◌, false≢true}
use mathlib.Core.List.{List, [], ◌∷◌}
use Prim.Native.Nat.{ℕ, zero, suc, ◌+◌, ◌≤◌, ◌<◌}
use native.Mathlib.Omega.{arith}
use native.Mathlib.Decide.{ℕ_discrete}
use native.Mathlib.Numerals.{add-one}
use borrow.Author.Tests.{leb-true, le-leb, lt-leb}
use lib.Dec.{leb}
use Rattle.lists.specs.Tests.{every, all, within}
use Rattle.lists.proofs.Logic.{and_left, and_right, and_no, and_yes, and_assoc}

-- each of these passes: a tuple, where the list is written out
abbrev pub Every : List Bool → Type 0
Every [] = Unit {0}
Every (b ∷ bs) = (b ≡ true) × Every bs

pub passed : (bs : List Bool) → every bs ≡ true → Every bs
unfolding every
passed [] h = tt
passed (b ∷ []) h = (h, tt)
passed (true ∷ c ∷ bs) h = (refl, passed (c ∷ bs) h)
passed (false ∷ c ∷ bs) h = absurd (false≢true h)

pub pass : (bs : List Bool) → Every bs → every bs ≡ true
unfolding every
pass [] h = refl
pass (b ∷ []) h = h.0
pass (b ∷ c ∷ bs) h = rw h.0 (pass (c ∷ bs) h.1)

pub is_within : (lo hi x : ℕ) → within lo hi x ≡ true → (lo ≤ x) × (x ≤ hi)
unfolding within
is_within lo hi x h = let (a, (b, _)) = passed _ h in (leb-true lo x a, leb-true x hi b)

pub within_is : (lo hi x : ℕ) → lo ≤ x → x ≤ hi → within lo hi x ≡ true
unfolding within
within_is lo hi x a b = pass _ (le-leb lo x a, (le-leb x hi b, tt))

pub within_under : (lo hi x : ℕ) → x < lo → within lo hi x ≡ false
unfolding within every
within_under lo hi x h = rw (lt-leb lo x h)

pub within_over : (lo hi x : ℕ) → hi < x → within lo hi x ≡ false
unfolding within every
within_over lo hi x h = rw (lt-leb x hi h) (and_no (leb lo x))

module _ (f : ℕ → Bool) where
  pub all_at : (n : ℕ) → all n f ≡ true → (i : ℕ) → i < n → f i ≡ true
  unfolding all
  all_at zero h i l = absurd (omega arith)
  all_at (suc n) h i l = go (ℕ_discrete i n) (all_at n (and_left (all n f) (f n) h) i)
    where
      go : Dec (i ≡ n) → (i < n → f i ≡ true) → f i ≡ true
      go (yes e) g = rw e (and_right (all n f) (f n) h)
      go (no e) g = g (omega arith)

  pub all_of : (n : ℕ) → ((i : ℕ) → i < n → f i ≡ true) → all n f ≡ true
  unfolding all
  all_of zero h = refl
  all_of (suc n) h = rw (all_of n (λ i l. h i (omega arith)), h n (omega arith))

  pub all_fewer : (n : ℕ) → all (suc n) f ≡ true → all n f ≡ true
  unfolding all
  all_fewer n h = and_left (all n f) (f n) h

  -- a loop of tests begins, goes on, and ends at a test that fails
  pub all_none : all 0 f ≡ true
  unfolding all
  all_none = refl

  pub all_next : (n : ℕ) (b : Bool) → all n f ≡ true → b ≡ f n → b ≡ true → all (n + 1) f ≡ true
  unfolding all
  all_next n b h e k = rw (add-one n) (rw (h, sym e ∙ k))

  pub all_fails : (i n : ℕ) → i < n → f i ≡ false → all n f ≡ false
  unfolding all
  all_fails i zero l k = absurd (omega arith)
  all_fails i (suc n) l k = go (ℕ_discrete i n) (λ l. all_fails i n l k)
    where
      go : Dec (i ≡ n) → (i < n → all n f ≡ false) → (all n f && f n) ≡ false
      go (yes e) g = rw (← e, k) (and_no (all i f))
      go (no e) g = rw (g (omega arith))

-- the first test by itself
pub all_front : (n : ℕ) (f : ℕ → Bool) → all (suc n) f ≡ (f 0 && all n λ i. f (suc i))
unfolding all
all_front zero f = sym (and_yes (f 0))
all_front (suc n) f = ap (λ b. b && f (suc n)) (all_front n f) ∙ and_assoc (f 0) (all n λ i. f (suc i)) (f (suc n))

pub all_same : (n : ℕ) (f g : ℕ → Bool) → ((i : ℕ) → i < n → f i ≡ g i) → all n f ≡ all n g
unfolding all
all_same zero f g h = refl
all_same (suc n) f g h = rw (all_same n f g (λ i l. h i (omega arith)), h n (omega arith))
