-- Laws of places: where a row of tests first fails, and one law for each way out of a scan.
use mathlib.Core.Path.{◌≡◌, refl, sym, ap, ◌∙◌}
use mathlib.Core.Bool.{Bool, true, false, not, ◌&&◌}
use mathlib.Core.Logic.{◌⊎◌, inl, inr}
use mathlib.Core.List.{List, [], ◌∷◌, ◌++◌}
use Prim.Native.Nat.{ℕ, zero, suc, ◌+◌, ◌≤◌, ◌<◌}
use native.Mathlib.Omega.{arith}
use native.Mathlib.Decide.{ℕ_discrete}
use native.Mathlib.Numerals.{add-one}
use lib.ListN.{length}
use Rattle.std.specs.Prelude.{ltb, Some, None, unwrap_or}
use borrow.Author.Tests.{ltb-true, ltb-false, lt-ltb, le-ltb}
use Rattle.lists.specs.Rows.{each, tab}
use Rattle.lists.specs.Tests.{all}
use Rattle.lists.specs.Places.{passing, first, found}
use Rattle.lists.proofs.Logic.{split, and_left, and_right}
use Rattle.lists.proofs.RowLaws.{length_tab}

pub passing_most : (bs : List Bool) → passing bs ≤ length bs
unfolding passing
passing_most [] = omega arith
passing_most (true ∷ bs) = let h = passing_most bs in omega arith
passing_most (false ∷ bs) = omega arith

-- behind tests that all pass
pub passing_on : (xs ys : List Bool) → passing xs ≡ length xs → passing (xs ++ ys) ≡ length xs + passing ys
unfolding passing
passing_on [] ys h = omega arith
passing_on (true ∷ xs) ys h = let k = passing_on xs ys (omega arith) in omega arith
passing_on (false ∷ xs) ys h = absurd (omega arith)

-- behind a test that fails
pub passing_stop : (xs ys : List Bool) → passing xs < length xs → passing (xs ++ ys) ≡ passing xs
unfolding passing
passing_stop [] ys h = absurd (omega arith)
passing_stop (true ∷ xs) ys h = ap suc (passing_stop xs ys (omega arith))
passing_stop (false ∷ xs) ys h = refl

module _ (f : ℕ → Bool) where
  -- a row of which the first n pass goes on with test n
  row_on : (n : ℕ) → passing (tab n f) ≡ n → passing (tab (suc n) f) ≡ n + passing (f n ∷ [])
  unfolding each
  row_on n e = passing_on (tab n f) (f n ∷ []) (e ∙ sym (length_tab n f)) ∙ ap (λ k. k + passing (f n ∷ [])) (length_tab n f)

  row_stop : (n : ℕ) → passing (tab n f) < n → passing (tab (suc n) f) ≡ passing (tab n f)
  unfolding each
  row_stop n l = passing_stop (tab n f) (f n ∷ []) (rw (length_tab n f) l)

  pub row_most : (n : ℕ) → passing (tab n f) ≤ n
  row_most n = rw (length_tab n f) at (passing_most (tab n f))

  pub row_next : (n : ℕ) → passing (tab n f) ≡ n → f n ≡ true → passing (tab (n + 1) f) ≡ n + 1
  unfolding passing
  row_next n e h = rw (add-one n) (row_on n e ∙ rw h (omega arith))

  -- the first n pass, and test n does not: the place is n, however long the row
  pub row_found : (n k : ℕ) → passing (tab n f) ≡ n → f n ≡ false → n < k → passing (tab k f) ≡ n
  unfolding passing
  row_found n zero e h l = absurd (omega arith)
  row_found n (suc k) e h l = go (ℕ_discrete n k) (λ l. row_found n k e h l)
    where
      go : Dec (n ≡ k) → (n < k → passing (tab k f) ≡ n) → passing (tab (suc k) f) ≡ n
      go (yes x) g = rw (← x) (row_on n e ∙ rw h (omega arith))
      go (no x) g = let i = g (omega arith) in row_stop k (omega arith) ∙ i

  -- a place below the row's end is that of a test that fails
  pub row_fails : (n : ℕ) → passing (tab n f) < n → f (passing (tab n f)) ≡ false
  unfolding passing
  row_fails zero l = absurd (omega arith)
  row_fails (suc n) l = go (ℕ_discrete (passing (tab n f)) n) (split (f n)) (row_fails n)
    where
      go : Dec (passing (tab n f) ≡ n) → (f n ≡ true) ⊎ (f n ≡ false) → (passing (tab n f) < n → f (passing (tab n f)) ≡ false)
          → f (passing (tab (suc n) f)) ≡ false
      go (yes x) (inl y) g = let z : passing (tab (suc n) f) ≡ suc n = row_on n x ∙ rw y (omega arith) in absurd (omega arith)
      go (yes x) (inr y) g = let z : passing (tab (suc n) f) ≡ n = row_on n x ∙ rw y (omega arith) in rw z y
      go (no x) y g =
          let k : passing (tab n f) < n = omega (arith, row_most n) in
          rw (row_stop n k) (g k)

  -- all pass exactly when none fails
  pub row_all : (n : ℕ) → all n f ≡ true → passing (tab n f) ≡ n
  unfolding all each passing
  row_all zero h = refl
  row_all (suc n) h = row_on n (row_all n (and_left (all n f) (f n) h)) ∙ rw (and_right (all n f) (f n) h) (omega arith)

  pub all_row : (n : ℕ) → passing (tab n f) ≡ n → all n f ≡ true
  unfolding all passing
  all_row zero e = refl
  all_row (suc n) e = go (ℕ_discrete (passing (tab n f)) n) (split (f n)) (all_row n)
    where
      go : Dec (passing (tab n f) ≡ n) → (f n ≡ true) ⊎ (f n ≡ false) → (passing (tab n f) ≡ n → all n f ≡ true) → (all n f && f n) ≡ true
      go (yes x) (inl y) g = rw (g x, y)
      go (yes x) (inr y) g = let z : passing (tab (suc n) f) ≡ n = row_on n x ∙ rw y (omega arith) in absurd (omega arith)
      go (no x) y g = let z = row_most n in let i = row_stop n (omega arith) in absurd (omega arith)

-- ---- the scan for the first number that is accepted

module _ (f : ℕ → Bool) where
  pub first_zero : first 0 f ≡ 0
  unfolding first each passing
  first_zero = refl

  pub first_most : (n : ℕ) → first n f ≤ n
  unfolding first
  first_most n = row_most (λ i. not (f i)) n

  pub first_none : (n : ℕ) → first n f ≡ n → f n ≡ false → first (n + 1) f ≡ n + 1
  unfolding first
  first_none n e h = row_next (λ i. not (f i)) n e (ap not h)

  pub first_found : (n k : ℕ) → first n f ≡ n → f n ≡ true → n < k → first k f ≡ n
  unfolding first
  first_found n k e h l = row_found (λ i. not (f i)) n k e (ap not h) l

-- a number below n that the scan stops at is accepted
pub first_accepts : (f : ℕ → Bool) (n : ℕ) → first n f < n → f (first n f) ≡ true
unfolding first
first_accepts f n l = go (split (f (first n f))) (row_fails (λ i. not (f i)) n l)
  where
    go : (f (first n f) ≡ true) ⊎ (f (first n f) ≡ false) → not (f (first n f)) ≡ false → f (first n f) ≡ true
    go (inl h) k = h
    go (inr h) k = cc

pub first_same : (f g : ℕ → Bool) (n : ℕ) → ((i : ℕ) → i < n → f i ≡ g i) → first n f ≡ first n g
unfolding first each
first_same f g n h = ap passing (go n h)
  where
    go : (n : ℕ) → ((i : ℕ) → i < n → f i ≡ g i) → tab n (λ i. not (f i)) ≡ tab n (λ i. not (g i))
    go zero h = refl
    go (suc n) h = rw (go n (λ i l. h i (omega arith)), h n (omega arith))

-- ---- a place below n, or none

pub found_some : (n i : ℕ) → i < n → found n i ≡ Some i
found_some n i l = rw (lt-ltb i n l) refl

pub found_none : (n : ℕ) → found n n ≡ None
found_none n = rw (le-ltb n n (omega arith)) refl

pub found_is : (n i k : ℕ) → Some k ≡ found n i → (k ≡ i) × (i < n)
found_is n i k e = go (split (ltb i n))
  where
    go : (ltb i n ≡ true) ⊎ (ltb i n ≡ false) → (k ≡ i) × (i < n)
    go (inl h) = let f : Some k ≡ Some i = rw h at e in (cc, ltb-true i n h)
    go (inr h) = let f : Some k ≡ None = rw h at e in let z : ◌≡◌ {A = ℕ} 0 1 = cc in absurd (omega arith)

pub found_not : (n i : ℕ) → None ≡ found n i → n ≤ i
found_not n i e = go (split (ltb i n))
  where
    go : (ltb i n ≡ true) ⊎ (ltb i n ≡ false) → n ≤ i
    go (inl h) = let f : None ≡ Some i = rw h at e in let z : ◌≡◌ {A = ℕ} 0 1 = cc in absurd (omega arith)
    go (inr h) = ltb-false i n h

-- where n is said for none
pub found_or : (n i : ℕ) → i ≤ n → unwrap_or (found n i) n ≡ i
found_or n i h = go (ℕ_discrete i n)
  where
    go : Dec (i ≡ n) → unwrap_or (found n i) n ≡ i
    go (yes e) = rw (e, found_none n) refl
    go (no e) = rw (found_some n i (omega arith)) refl
