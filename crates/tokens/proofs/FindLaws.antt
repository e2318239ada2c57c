-- How many bytes stand in front of the first such byte, by where that is.
use Rattle.std.proofs.Common.{◌≡◌, refl, ℕ, zero, suc, ◌<◌, Some, None, ◌+◌, List, [], ◌∷◌, length, get_or, drop, sym, ap, ◌∙◌, arith}
use native.Mathlib.Numerals.{add-one}
use lib.Seq.{drop-cons}
use borrow.Author.Tests.{eq-eqb, ne_eqb, eqb-true}
use Rattle.memchr.specs.Find.{IsFirstByte, is_byte}
use Rattle.lists.specs.Pieces.{up_to}

up_to_hit : (k : ℕ) (xs : List ℕ) (n : ℕ) → n < length xs → get_or xs n 0 ≡ k → ((j : ℕ) → j < n → get_or xs j 0 ≡ k → ⊥)
    → length (up_to k xs) ≡ n
unfolding up_to
up_to_hit k [] n l e f = absurd (omega arith)
up_to_hit k (b ∷ bs) zero l e f = rw (eq-eqb b k e)
up_to_hit k (b ∷ bs) (suc n) l e f =
    rw (ne_eqb b k (f 0 (omega arith))) (ap suc (up_to_hit k bs n (omega arith) e (λ j h. f (suc j) (omega arith))))

up_to_all : (k : ℕ) (xs : List ℕ) → ((j : ℕ) → j < length xs → get_or xs j 0 ≡ k → ⊥) → length (up_to k xs) ≡ length xs
unfolding up_to
up_to_all k [] f = refl
up_to_all k (b ∷ bs) f = rw (ne_eqb b k (f 0 (omega arith))) (ap suc (up_to_all k bs (λ j h. f (suc j) (omega arith))))

pub length_up_to_first : (k : ℕ) (xs : List ℕ) (n : ℕ) → IsFirstByte (is_byte k) xs (Some n) → length (up_to k xs) ≡ n
length_up_to_first k xs n h =
    up_to_hit k xs n h.0.high (eqb-true _ _ h.1) (λ j l e. h.0.before j (omega arith) l (eq-eqb _ _ e))

pub length_up_to_none : (k : ℕ) (xs : List ℕ) → IsFirstByte (is_byte k) xs None → length (up_to k xs) ≡ length xs
length_up_to_none k xs h = up_to_all k xs (λ j l e. h j (omega arith) l (eq-eqb _ _ e))

-- the search at i: what is left of it
module _ (k : ℕ) (xs : List ℕ) (i : ℕ) (h : i < length xs) where
  here : drop i xs ≡ get_or xs i 0 ∷ drop (i + 1) xs
  here = drop-cons xs i 0 h ∙ ap (λ (j : ℕ). get_or xs i 0 ∷ drop j xs) (sym (add-one i))

  pub byte_found : get_or xs i 0 ≡ k → length (up_to k (drop i xs)) ≡ 0
  unfolding up_to
  byte_found e = rw (here, eq-eqb (get_or xs i 0) k e)

  pub byte_passed : (get_or xs i 0 ≡ k → ⊥) → length (up_to k (drop i xs)) ≡ suc (length (up_to k (drop (i + 1) xs)))
  unfolding up_to
  byte_passed n = rw (here, ne_eqb (get_or xs i 0) k n)
