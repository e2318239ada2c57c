-- Laws of numerals: the last digit and those before it, how many there are, and that each is a digit, the first not 0.
use mathlib.Core.Path.{◌≡◌, refl, ap}
use mathlib.Core.Bool.{Bool, true, false}
use mathlib.Core.Logic.{◌⊎◌, inl, inr}
use mathlib.Core.List.{List, [], ◌∷◌, ◌++◌}
use Prim.Native.Nat.{ℕ, zero, suc, ◌+◌, ◌^◌, ◌≤◌, ◌<◌, ◌/◌, ◌%◌}
use native.Mathlib.Omega.{arith}
use borrow.Author.Tests.{ltb-true, ltb-false, lt-ltb, le-ltb}
use lib.Dec.{ltb}
use lib.ListN.{length, length-append}
use Rattle.lists.specs.Numerals.{digit, higher, digits_below, numeral}
use Rattle.lists.proofs.Logic.{split}
use Rattle.lists.proofs.PieceLaws.{Without}

-- the digits are the same for every k above x
enough : (k j x : ℕ) → x < k → x < j → digits_below k x ≡ digits_below j x
unfolding digits_below
enough zero j x h l = absurd (omega arith)
enough (suc k) zero x h l = absurd (omega arith)
enough (suc k) (suc j) x h l = go (split (ltb x 10)) (λ m. enough k j (x / 10) (omega arith) (omega arith))
  where
    go : (ltb x 10 ≡ true) ⊎ (ltb x 10 ≡ false) → (10 ≤ x → digits_below k (x / 10) ≡ digits_below j (x / 10))
        → digits_below (suc k) x ≡ digits_below (suc j) x
    go (inl e) f = rw e refl
    go (inr e) f = rw (e, f (ltb-false x 10 e))

pub numeral_small : (x : ℕ) → x < 10 → numeral x ≡ digit x ∷ []
unfolding numeral digits_below
numeral_small x h = let e : x % 10 ≡ x = omega arith in rw (lt-ltb x 10 h, e)

pub numeral_more : (x : ℕ) → 10 ≤ x → numeral x ≡ numeral (x / 10) ++ (digit (x % 10) ∷ [])
unfolding numeral digits_below
numeral_more x h = rw (le-ltb x 10 h, enough x (suc (x / 10)) (x / 10) (omega arith) (omega arith))

-- ---- how many digits

pub length_small : (x : ℕ) → x < 10 → length (numeral x) ≡ 1
length_small x h = ap length (numeral_small x h)

pub length_more : (x : ℕ) → 10 ≤ x → length (numeral x) ≡ length (numeral (x / 10)) + 1
length_more x h = rw (numeral_more x h, length-append)

pub length_some : (x : ℕ) → 0 < length (numeral x)
length_some x = go (split (ltb x 10))
  where
    go : (ltb x 10 ≡ true) ⊎ (ltb x 10 ≡ false) → 0 < length (numeral x)
    go (inl e) = rw (length_small x (ltb-true x 10 e)) (omega arith)
    go (inr e) = rw (length_more x (ltb-false x 10 e)) (omega arith)

-- a number below a power of ten
pub length_few : (k x : ℕ) → x < 10 ^ suc k → length (numeral x) ≤ suc k
length_few zero x h = rw (length_small x (omega arith)) (omega arith)
length_few (suc k) x h = go (split (ltb x 10)) (length_few k (x / 10) (omega arith))
  where
    go : (ltb x 10 ≡ true) ⊎ (ltb x 10 ≡ false) → length (numeral (x / 10)) ≤ suc k → length (numeral x) ≤ suc (suc k)
    go (inl e) l = rw (length_small x (ltb-true x 10 e)) (omega arith)
    go (inr e) l = rw (length_more x (ltb-false x 10 e)) (omega arith)

-- a number of 64 bits
pub length_word : (x : ℕ) → x < 18446744073709551616 → length (numeral x) ≤ 20
length_word x h = length_few 19 x (omega arith)

-- ---- each byte is a digit

abbrev pub Digits : List ℕ → Type 0
Digits [] = Unit {0}
Digits (b ∷ bs) = ((digit 0 ≤ b) × (b ≤ digit 9)) × Digits bs

digits_append : (a b : List ℕ) → Digits a → Digits b → Digits (a ++ b)
digits_append [] b h l = l
digits_append (x ∷ a) b h l = (h.0, digits_append a b h.1 l)

digits_below_lem : (k x : ℕ) → Digits (digits_below k x)
unfolding digits_below
digits_below_lem zero x = tt
digits_below_lem (suc k) x =
    digits_append (higher (ltb x 10) (digits_below k) (x / 10)) (digit (x % 10) ∷ []) (go (ltb x 10) (digits_below_lem k (x / 10)))
    ((omega arith, omega arith), tt)
  where
    go : (b : Bool) → Digits (digits_below k (x / 10)) → Digits (higher b (digits_below k) (x / 10))
    go true h = tt
    go false h = h

pub digits_numeral : (x : ℕ) → Digits (numeral x)
unfolding numeral
digits_numeral x = digits_below_lem (suc x) x

-- a byte below the digits, such as a space or LF, is not among them
pub digits_without : (k : ℕ) → k < digit 0 → (ds : List ℕ) → Digits ds → Without k ds
digits_without k l [] h = tt
digits_without k l (b ∷ ds) h = (λ e. omega (arith, h.0.0), digits_without k l ds h.1)

-- ---- the first is not 0

abbrev pub NoLeadingZero : List ℕ → Type 0
NoLeadingZero [] = ⊥
NoLeadingZero (b ∷ bs) = digit 0 < b

leading_append : (a b : List ℕ) → NoLeadingZero a → NoLeadingZero (a ++ b)
leading_append [] b h = absurd h
leading_append (x ∷ a) b h = h

leading_below : (k x : ℕ) → 0 < x → x < k → NoLeadingZero (digits_below k x)
unfolding digits_below
leading_below zero x h l = absurd (omega arith)
leading_below (suc k) x h l = go (split (ltb x 10)) (leading_below k (x / 10))
  where
    go : (ltb x 10 ≡ true) ⊎ (ltb x 10 ≡ false) → (0 < x / 10 → x / 10 < k → NoLeadingZero (digits_below k (x / 10)))
        → NoLeadingZero (higher (ltb x 10) (digits_below k) (x / 10) ++ (digit (x % 10) ∷ []))
    go (inl e) f = let i = ltb-true x 10 e in rw e (omega arith)
    go (inr e) f =
        let i = ltb-false x 10 e in
        rw e (leading_append (digits_below k (x / 10)) (digit (x % 10) ∷ []) (f (omega arith) (omega arith)))

pub leading_numeral : (x : ℕ) → NoLeadingZero (numeral (suc x))
unfolding numeral
leading_numeral x = leading_below (suc (suc x)) (suc x) (omega arith) (omega arith)
