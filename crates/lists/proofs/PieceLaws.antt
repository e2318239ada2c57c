-- Laws of the pieces of a text, and of how a text begins.
use mathlib.Core.Path.{◌≡◌, refl, sym, ap, ◌∙◌}
use mathlib.Core.Bool.{Bool, true, false, ◌&&◌, cond, false≢true}
use mathlib.Core.List.{List, [], ◌∷◌, ◌++◌}
use Prim.Native.Nat.{ℕ, suc, ◌≤◌, ◌<◌}
use native.Mathlib.Omega.{arith}
use native.Mathlib.Decide.{ℕ_discrete}
use borrow.Author.Tests.{eq-eqb, ne_eqb, eqb-true}
use lib.Dec.{eqb, eqb-suc-suc}
use lib.ListN.{length, take, drop}
use lib.Pointwise.{pointwise}
use Rattle.std.specs.List.{starts_with}
use Rattle.lists.specs.Pieces.{Pieces, last, piece, onto, cut, up_to, starts, is}
use Rattle.lists.proofs.Logic.{and_no}

-- ---- up to the first k

pub length_up_to : (k : ℕ) (xs : List ℕ) → length (up_to k xs) ≤ length xs
unfolding up_to
length_up_to k [] = omega arith
length_up_to k (b ∷ bs) = go (eqb b k) (length_up_to k bs)
  where
    go : (t : Bool) → length (up_to k bs) ≤ length bs → length (cond t [] (b ∷ up_to k bs)) ≤ suc (length bs)
    go true h = omega arith
    go false h = omega arith

pub take_up_to : (k : ℕ) (xs : List ℕ) → take (length (up_to k xs)) xs ≡ up_to k xs
unfolding up_to
take_up_to k [] = refl
take_up_to k (b ∷ bs) = go (eqb b k) (take_up_to k bs)
  where
    go : (t : Bool) → take (length (up_to k bs)) bs ≡ up_to k bs → take (length (cond t [] (b ∷ up_to k bs))) (b ∷ bs)
        ≡ cond t [] (b ∷ up_to k bs)
    go true h = refl
    go false h = ap (λ l. b ∷ l) h

-- where they are not all, k follows
pub drop_up_to : (k : ℕ) (xs : List ℕ) → length (up_to k xs) < length xs → drop (length (up_to k xs)) xs ≡ k
    ∷ drop (suc (length (up_to k xs))) xs
unfolding up_to
drop_up_to k [] h = absurd (omega arith)
drop_up_to k (b ∷ bs) h = go (eqb b k) refl h (drop_up_to k bs)
  where
    go : (t : Bool) → eqb b k ≡ t → length (cond t [] (b ∷ up_to k bs)) < suc (length bs)
        → (length (up_to k bs) < length bs → drop (length (up_to k bs)) bs ≡ k ∷ drop (suc (length (up_to k bs))) bs)
        → drop (length (cond t [] (b ∷ up_to k bs))) (b ∷ bs) ≡ k ∷ drop (length (cond t [] (b ∷ up_to k bs))) bs
    go true e h f = ap (λ x. x ∷ bs) (eqb-true b k e)
    go false e h f = f (omega arith)

-- ---- how a text begins

pub starts_length : (t p : List ℕ) → starts t p ≡ true → length t ≤ length p
unfolding starts
starts_length [] p h = omega arith
starts_length (x ∷ xs) [] h = absurd (false≢true h)
starts_length (x ∷ xs) (b ∷ bs) h = go (eqb b x) h (starts_length xs bs)
  where
    go : (c : Bool) → (c && starts xs bs) ≡ true → (starts xs bs ≡ true → length xs ≤ length bs) → suc (length xs) ≤ suc (length bs)
    go true h f = omega (arith, f h)
    go false h f = absurd (false≢true h)

-- ---- the same by the library's words

eqb_swap : (a b : ℕ) → eqb a b ≡ eqb b a
eqb_swap a b = go (ℕ_discrete a b)
  where
    go : Dec (a ≡ b) → eqb a b ≡ eqb b a
    go (yes e) = eq-eqb a b e ∙ sym (eq-eqb b a (sym e))
    go (no e) = ne_eqb a b e ∙ sym (ne_eqb b a (λ x. e (sym x)))

pub starts_is : (w s : List ℕ) → starts w s ≡ starts_with eqb s w
unfolding starts
starts_is [] s = refl
starts_is (x ∷ xs) [] = refl
starts_is (x ∷ xs) (b ∷ bs) = rw (starts_is xs bs, eqb_swap b x)

-- a text is the word when the library finds them equal
pub is_equal : (w s : List ℕ) → is w s ≡ pointwise eqb s w
unfolding is starts
is_equal [] [] = refl
is_equal [] (b ∷ bs) = rw (ne_eqb (suc (length bs)) 0 (λ e. omega arith))
is_equal (x ∷ xs) [] = and_no (eqb 0 (suc (length xs)))
is_equal (x ∷ xs) (b ∷ bs) =
    rw (eqb-suc-suc (length bs) (length xs))
    (swap (eqb (length bs) (length xs)) (eqb b x) (starts xs bs) ∙ ap (λ t. eqb b x && t) (is_equal xs bs))
  where
    swap : (p q t : Bool) → (p && (q && t)) ≡ (q && (p && t))
    swap true q t = refl
    swap false q t = sym (and_no q)

-- ---- pieces

pub cut_all : (k : ℕ) (xs : List ℕ) → length (up_to k xs) ≡ length xs → cut k xs ≡ last xs
unfolding up_to cut
cut_all k [] h = refl
cut_all k (b ∷ bs) h = go (eqb b k) h (cut_all k bs)
  where
    go : (t : Bool) → length (cond t [] (b ∷ up_to k bs)) ≡ suc (length bs) → (length (up_to k bs) ≡ length bs → cut k bs ≡ last bs)
        → cond t (piece [] (cut k bs)) (onto b (cut k bs)) ≡ last (b ∷ bs)
    go true h f = absurd (omega arith)
    go false h f = ap (onto b) (f (omega arith))

pub cut_first : (k : ℕ) (xs : List ℕ) → length (up_to k xs) < length xs
    → cut k xs ≡ piece (take (length (up_to k xs)) xs) (cut k (drop (suc (length (up_to k xs))) xs))
unfolding up_to cut
cut_first k [] h = absurd (omega arith)
cut_first k (b ∷ bs) h = go (eqb b k) h (cut_first k bs)
  where
    first : List ℕ → List ℕ → Pieces
    first up xs = piece (take (length up) xs) (cut k (drop (suc (length up)) xs))

    go : (t : Bool) → length (cond t [] (b ∷ up_to k bs)) < suc (length bs)
        → (length (up_to k bs) < length bs → cut k bs ≡ first (up_to k bs) bs)
        → cond t (piece [] (cut k bs)) (onto b (cut k bs)) ≡ first (cond t [] (b ∷ up_to k bs)) (b ∷ bs)
    go true h f = refl
    go false h f = ap (onto b) (f (omega arith))

-- no byte is k
abbrev pub Without : ℕ → List ℕ → Type 0
Without k [] = Unit {0}
Without k (b ∷ bs) = (b ≡ k → ⊥) × Without k bs

pub without_append : (k : ℕ) (a b : List ℕ) → Without k a → Without k b → Without k (a ++ b)
without_append k [] b h l = l
without_append k (x ∷ a) b h l = (h.0, without_append k a b h.1 l)

-- a piece with its k in front of a text
pub cut_front : (k : ℕ) (p rest : List ℕ) → Without k p → cut k (p ++ (k ∷ rest)) ≡ piece p (cut k rest)
unfolding cut
cut_front k [] rest h = rw (eq-eqb k k refl)
cut_front k (b ∷ p) rest h = rw (ne_eqb b k h.0) (ap (onto b) (cut_front k p rest h.1))
