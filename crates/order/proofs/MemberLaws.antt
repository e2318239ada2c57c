-- What stands in a list that is kept by a test, mapped, joined of two, or a row.
use mathlib.Core.Path.{◌≡◌, refl, ap, ◌∙◌}
use mathlib.Core.Bool.{Bool, true, false, cond}
use mathlib.Core.Logic.{◌⊎◌, inl, inr}
use mathlib.Core.List.{List, [], ◌∷◌, ◌++◌, map}
use Prim.Native.Nat.{ℕ, zero, suc, ◌<◌}
use native.Mathlib.Omega.{arith}
use native.Mathlib.Decide.{ℕ_discrete}
use Rattle.lists.specs.Rows.{each, tab}
use Rattle.lists.proofs.Logic.{clash}
use Rattle.order.specs.Sorting.{keep, In, Same}

pub same_swap : {T : Type 0} {xs ys : List T} → Same xs ys → Same ys xs
same_swap s = record { there = s.back; back = s.there }

module _ {T : Type 0} (f : T → Bool) where
  pub in_keep : (z : T) (xs : List T) → In z (keep f xs) → In z xs × (f z ≡ true)
  unfolding keep
  in_keep z [] h = elim h [ ]
  in_keep z (x ∷ xs) h = go (f x) refl h (in_keep z xs)
    where
      go : (b : Bool) → f x ≡ b → In z (cond b (x ∷ keep f xs) (keep f xs)) → (In z (keep f xs) → In z xs × (f z ≡ true))
          → ((z ≡ x) ⊎ In z xs) × (f z ≡ true)
      go true p (inl e) g = (inl e, ap f e ∙ p)
      go true p (inr i) g = (inr (g i).0, (g i).1)
      go false p i g = (inr (g i).0, (g i).1)

  pub keep_in : (z : T) (xs : List T) → In z xs → f z ≡ true → In z (keep f xs)
  unfolding keep
  keep_in z [] h k = elim h [ ]
  keep_in z (x ∷ xs) h k = go (f x) refl h (λ i. keep_in z xs i k)
    where
      go : (b : Bool) → f x ≡ b → (z ≡ x) ⊎ In z xs → (In z xs → In z (keep f xs)) → In z (cond b (x ∷ keep f xs) (keep f xs))
      go true p (inl e) g = inl e
      go true p (inr i) g = inr (g i)
      go false p (inl e) g = clash k (ap f e ∙ p)
      go false p (inr i) g = g i

-- where all pass, all are kept
pub keep_all : {T : Type 0} (f : T → Bool) (xs : List T) → ((x : T) → In x xs → f x ≡ true) → keep f xs ≡ xs
unfolding keep
keep_all f [] h = refl
keep_all f (x ∷ xs) h = rw (h x (inl refl)) (rw (keep_all f xs (λ y i. h y (inr i))))

module _ {S T : Type 0} (f : S → T) where
  pub in_map : (z : T) (xs : List S) → In z (map f xs) → (x : S) × In x xs × (z ≡ f x)
  in_map z [] x' = elim x' [ ]
  in_map z (x ∷ xs) (inl e) = (x, inl refl, e)
  in_map z (x ∷ xs) (inr i) = let (y, j, e) = in_map z xs i in (y, inr j, e)

  pub map_in : (x : S) (xs : List S) → In x xs → In (f x) (map f xs)
  map_in x [] x'' = elim x'' [ ]
  map_in x (y ∷ ys) (inl e) = inl (ap f e)
  map_in x (y ∷ ys) (inr i) = inr (map_in x ys i)

-- a list whose members are all mapped back is mapped back
pub map_back : {S T : Type 0} (f : S → T) (g : T → S) (xs : List S) → ((x : S) → In x xs → g (f x) ≡ x) → map g (map f xs) ≡ xs
map_back f g [] h = refl
map_back f g (x ∷ xs) h = λ i. h x (inl refl) i ∷ map_back f g xs (λ y j. h y (inr j)) i

pub map_same : {S T : Type 0} (f g : S → T) (xs : List S) → ((x : S) → In x xs → f x ≡ g x) → map f xs ≡ map g xs
map_same f g [] h = refl
map_same f g (x ∷ xs) h = λ i. h x (inl refl) i ∷ map_same f g xs (λ y j. h y (inr j)) i

-- ---- what stands in a row

pub in_append : {T : Type 0} (z : T) (xs ys : List T) → In z (xs ++ ys) → In z xs ⊎ In z ys
in_append z [] ys i = inr i
in_append z (x ∷ xs) ys (inl e) = inl (inl e)
in_append z (x ∷ xs) ys (inr i) = go (in_append z xs ys i)
  where
    go : In z xs ⊎ In z ys → In z (x ∷ xs) ⊎ In z ys
    go (inl j) = inl (inr j)
    go (inr j) = inr j

pub append_left : {T : Type 0} (z : T) (xs ys : List T) → In z xs → In z (xs ++ ys)
append_left {T = T} z [] ys x' = elim x' [ ]
append_left z (x ∷ xs) ys (inl e) = inl e
append_left z (x ∷ xs) ys (inr i) = inr (append_left z xs ys i)

pub append_right : {T : Type 0} (z : T) (xs ys : List T) → In z ys → In z (xs ++ ys)
append_right z [] ys i = i
append_right z (x ∷ xs) ys i = inr (append_right z xs ys i)

-- x in front or behind: the members are the same
pub same_snoc : {T : Type 0} (x : T) (xs : List T) → Same (x ∷ xs) (xs ++ (x ∷ []))
same_snoc {T = T} x xs = record { there = there; back = λ z i. back z (in_append z xs (x ∷ []) i) }
  where
    there : (z : T) → (z ≡ x) ⊎ In z xs → In z (xs ++ (x ∷ []))
    there z (inl e) = append_right z xs (x ∷ []) (inl e)
    there z (inr i) = append_left z xs (x ∷ []) i

    back : (z : T) → In z xs ⊎ ((z ≡ x) ⊎ ⊥) → (z ≡ x) ⊎ In z xs
    back z (inl i) = inr i
    back z (inr (inl e)) = inl e
    back z (inr (inr i)) = absurd i

module _ {T : Type 0} (f : ℕ → T) where
  pub in_tab : (n : ℕ) (z : T) → In z (tab n f) → (k : ℕ) × (k < n) × (z ≡ f k)
  unfolding each
  in_tab zero z i = absurd i
  in_tab (suc n) z i = go (in_append z (tab n f) (f n ∷ []) i) (in_tab n z)
    where
      go : In z (tab n f) ⊎ In z (f n ∷ []) → (In z (tab n f) → (k : ℕ) × (k < n) × (z ≡ f k)) → (k : ℕ) × (k < suc n) × (z ≡ f k)
      go (inl j) g = let (k, l, e) = g j in (k, omega arith, e)
      go (inr (inl e)) g = (n, omega arith, e)
      go (inr (inr j)) g = absurd j

  pub tab_in : (n k : ℕ) → k < n → In (f k) (tab n f)
  unfolding each
  tab_in zero k l = absurd (omega arith)
  tab_in (suc n) k l = go (ℕ_discrete k n) (tab_in n k)
    where
      go : Dec (k ≡ n) → (k < n → In (f k) (tab n f)) → In (f k) (tab n f ++ (f n ∷ []))
      go (yes e) g = append_right (f k) (tab n f) (f n ∷ []) (inl (ap f e))
      go (no e) g = append_left (f k) (tab n f) (f n ∷ []) (g (omega arith))
