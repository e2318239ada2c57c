-- Laws of rows: their length, and what stands at a place.
use mathlib.Core.Path.{◌≡◌, refl, ap, ◌∙◌}
use mathlib.Core.Bool.{cond}
use mathlib.Core.List.{List, [], ◌∷◌, ◌++◌, map, map-append}
use Prim.Native.Nat.{ℕ, zero, suc, ◌+◌, ◌*◌, ◌≤◌, ◌<◌}
use native.Mathlib.Omega.{arith}
use native.Mathlib.Decide.{ℕ_discrete}
use native.Mathlib.Nat.{mul-le-mul_right}
use borrow.Author.Tests.{eq-eqb, ne_eqb}
use lib.Dec.{eqb}
use lib.ListN.{length, get_or, set, length-append, get_or-append}
use lib.Seq.{get_or_at, get_or-append-add, set_at, set-append_left}
use Rattle.lists.specs.Rows.{each, tab, sum}

-- ---- sums

pub sum_same : (n : ℕ) (f g : ℕ → ℕ) → ((i : ℕ) → i < n → f i ≡ g i) → sum n f ≡ sum n g
unfolding sum
sum_same zero f g h = refl
sum_same (suc n) f g h = rw (sum_same n f g (λ i l. h i (omega arith)), h n (omega arith))

pub sum_plus : (n : ℕ) (f g : ℕ → ℕ) → sum n f + sum n g ≡ sum n (λ i. f i + g i)
unfolding sum
sum_plus zero f g = refl
sum_plus (suc n) f g = let e = sum_plus n f g in omega arith

pub sum_const : (n k : ℕ) → sum n (λ i. k) ≡ n * k
unfolding sum
sum_const zero k = omega arith
sum_const (suc n) k = let e = sum_const n k in omega arith

pub sum_swap : (n k : ℕ) (f : ℕ → ℕ → ℕ) → sum n (λ i. sum k (f i)) ≡ sum k (λ j. sum n (λ i. f i j))
unfolding sum
sum_swap zero k f = let e = sum_const k 0 in omega arith
sum_swap (suc n) k f = rw (sum_swap n k f) (sum_plus k (λ j. sum n (λ i. f i j)) (f n))

-- the numbers below n that equal i: none, or one
pub sum_miss : (n i : ℕ) → n ≤ i → sum n (λ x. cond (eqb i x) 1 0) ≡ 0
unfolding sum
sum_miss zero i l = refl
sum_miss (suc n) i l = rw (sum_miss n i (omega arith), ne_eqb i n (λ e. omega arith)) refl

pub sum_hit : (n i : ℕ) → i < n → sum n (λ x. cond (eqb i x) 1 0) ≡ 1
unfolding sum
sum_hit zero i l = absurd (omega arith)
sum_hit (suc n) i l = go (ℕ_discrete i n) (sum_hit n i)
  where
    go : Dec (i ≡ n) → (i < n → sum n (λ x. cond (eqb i x) 1 0) ≡ 1) → sum n (λ x. cond (eqb i x) 1 0) + cond (eqb i n) 1 0 ≡ 1
    go (yes e) f = rw (sum_miss n i (omega arith), eq-eqb i n e) refl
    go (no e) f = rw (f (omega arith), ne_eqb i n e) refl

-- row t of rows of k places ends before the row behind the last one begins
pub row_fits : (t r k : ℕ) → t ≤ r → t * k + k ≤ suc r * k
row_fits t r k h = let i = mul-le-mul_right {m = suc t} {n = suc r} k (omega arith) in omega arith

-- ---- rows of parts

module _ {T : Type 0} (g : ℕ → List T) where
  pub length_each : (n : ℕ) → length (each n g) ≡ sum n (λ i. length (g i))
  unfolding each sum
  length_each zero = refl
  length_each (suc n) = rw (length-append, length_each n)

  -- parts of one length
  pub length_parts : (n k : ℕ) → ((i : ℕ) → length (g i) ≡ k) → length (each n g) ≡ n * k
  length_parts n k h = length_each n ∙ sum_same n (λ i. length (g i)) (λ i. k) (λ i l. h i) ∙ sum_const n k

  -- parts of one length, as far as the row goes
  pub length_rows : (n k : ℕ) → ((i : ℕ) → i < n → length (g i) ≡ k) → length (each n g) ≡ n * k
  length_rows n k h = length_each n ∙ sum_same n (λ i. length (g i)) (λ i. k) h ∙ sum_const n k

  -- place j of part i lies in the row
  pub part_within : (n i j : ℕ) → i < n → j < length (g i) → length (each i g) + j < length (each n g)
  unfolding each
  part_within zero i j l h = absurd (omega arith)
  part_within (suc n) i j l h = rw length-append (go (ℕ_discrete i n) (λ l. part_within n i j l h))
    where
      go : Dec (i ≡ n) → (i < n → length (each i g) + j < length (each n g)) → length (each i g) + j < length (each n g) + length (g n)
      go (yes e) f = let h : j < length (g n) = rw e at h in rw e (omega arith)
      go (no e) f = let k = f (omega arith) in omega arith

  pub get_d_each : (n i j : ℕ) (d : T) → i < n → j < length (g i) → get_or (each n g) (length (each i g) + j) d ≡ get_or (g i) j d
  unfolding each
  get_d_each zero i j d l h = absurd (omega arith)
  get_d_each (suc n) i j d l h = go (ℕ_discrete i n) (λ l. get_d_each n i j d l h)
    where
      go : Dec (i ≡ n) → (i < n → get_or (each n g) (length (each i g) + j) d ≡ get_or (g i) j d)
          → get_or (each n g ++ g n) (length (each i g) + j) d ≡ get_or (g i) j d
      go (yes e) f = rw e (get_or-append-add (each n g) (g n) j d)
      go (no e) f = get_or-append (each n g) (g n) d (length (each i g) + j) (part_within n i j (omega arith) h) ∙ f (omega arith)

-- ---- rows of elements

pub length_tab {ℓ} : {T : Type ℓ} (n : ℕ) (f : ℕ → T) → length (tab n f) ≡ n
unfolding each
length_tab zero f = refl
length_tab (suc n) f = rw (length-append, length_tab n f) (omega arith)

pub get_d_tab {ℓ} : {T : Type ℓ} (n : ℕ) (f : ℕ → T) (i : ℕ) (d : T) → i < n → get_or (tab n f) i d ≡ f i
unfolding each
get_d_tab zero f i d l = absurd (omega arith)
get_d_tab (suc n) f i d l = go (ℕ_discrete i n) (get_d_tab n f i d)
  where
    go : Dec (i ≡ n) → (i < n → get_or (tab n f) i d ≡ f i) → get_or (tab n f ++ (f n ∷ [])) i d ≡ f i
    go (yes e) h = rw e (get_or_at (tab n f) (f n) [] d n (length_tab n f))
    go (no e) h = get_or-append (tab n f) (f n ∷ []) d i (rw (length_tab n f) (omega arith)) ∙ h (omega arith)

pub map_tab {ℓ ℓ'} : {S : Type ℓ} {T : Type ℓ'} (h : S → T) (n : ℕ) (f : ℕ → S) → map h (tab n f) ≡ tab n (λ i. h (f i))
unfolding each
map_tab h zero f = refl
map_tab h (suc n) f = map-append h (tab n f) (f n ∷ []) ∙ rw (map_tab h n f)

-- ---- rows by what stands in them

pub each_same {ℓ} : {T : Type ℓ} (n : ℕ) (f g : ℕ → List T) → ((i : ℕ) → i < n → f i ≡ g i) → each n f ≡ each n g
unfolding each
each_same zero f g h = refl
each_same (suc n) f g h = rw (each_same n f g (λ i l. h i (omega arith)), h n (omega arith))

pub tab_same {ℓ} : {T : Type ℓ} (n : ℕ) (f g : ℕ → T) → ((i : ℕ) → i < n → f i ≡ g i) → tab n f ≡ tab n g
unfolding each
tab_same zero f g h = refl
tab_same (suc n) f g h = rw (tab_same n f g (λ i l. h i (omega arith)), h n (omega arith))

pub map_each {ℓ} : {S T : Type ℓ} (f : S → T) (n : ℕ) (g : ℕ → List S) → map f (each n g) ≡ each n (λ i. map f (g i))
unfolding each
map_each f zero g = refl
map_each f (suc n) g = map-append f (each n g) (g n) ∙ rw (map_each f n g)

-- one place of a row is set
pub set_tab : (n : ℕ) (f : ℕ → ℕ) (x v : ℕ) → x < n → set (tab n f) x v ≡ tab n (λ y. cond (eqb x y) v (f y))
unfolding each
set_tab zero f x v l = absurd (omega arith)
set_tab (suc n) f x v l = go (ℕ_discrete x n) (set_tab n f x v)
  where
    go : Dec (x ≡ n) → (x < n → set (tab n f) x v ≡ tab n (λ y. cond (eqb x y) v (f y)))
        → set (tab n f ++ (f n ∷ [])) x v ≡ tab n (λ y. cond (eqb x y) v (f y)) ++ (cond (eqb x n) v (f n) ∷ [])
    go (yes e) q =
        let same : tab n f ≡ tab n (λ y. cond (eqb x y) v (f y)) =
        tab_same n f (λ y. cond (eqb x y) v (f y)) (λ y k. rw (ne_eqb x y (λ z. omega arith))) in
        ap (λ (i : ℕ). set (tab n f ++ (f n ∷ [])) i v) e
        ∙ set_at (tab n f) (f n) [] v n (length_tab n f)
        ∙ rw (eq-eqb x n e) (ap (λ (l : List ℕ). l ++ (v ∷ [])) same)
    go (no e) q =
        set-append_left (tab n f) (f n ∷ []) x v (rw (length_tab n f) (omega arith))
        ∙ rw (ne_eqb x n e) (ap (λ (l : List ℕ). l ++ (f n ∷ [])) (q (omega arith)))
