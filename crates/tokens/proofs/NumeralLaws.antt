-- A numeral is read back as its number: all of it is digits, they are allowed, and they write that number.
use mathlib.Core.Path.{◌≡◌, refl, ap, ◌∙◌}
use mathlib.Core.Bool.{Bool, true, false}
use mathlib.Core.Logic.{◌⊎◌, inl, inr}
use mathlib.Core.List.{List, [], ◌∷◌, ◌++◌}
use Prim.Native.Nat.{ℕ, zero, suc, ◌+◌, ◌*◌, ◌-◌, ◌/◌, ◌%◌, ◌≤◌, ◌<◌}
use native.Mathlib.Omega.{arith}
use borrow.Author.Tests.{ltb-true, ltb-false, eq-eqb, ne_eqb}
use lib.Dec.{ltb}
use lib.ListN.{length}
use Rattle.lists.specs.Rows.{num}
use Rattle.lists.specs.Numerals.{digit, higher, digits_below, numeral}
use Rattle.lists.proofs.Logic.{split}
use Rattle.lists.proofs.TestLaws.{within_is}
use Rattle.lists.proofs.NumeralLaws.{length_some, length_few, Digits, digits_numeral, NoLeadingZero, leading_numeral}
use Rattle.job.specs.declared.Literal.TheVariants.{On, Off}
use Rattle.job.specs.Literals.{valued}
use Rattle.tokens.specs.declared.Token.TheVariants.{Number}
use Rattle.tokens.specs.Numbers.{front, decimal, allowed, max_number, unsigned, token}

-- ---- all of it is digits

front_all : (ds : List ℕ) → Digits ds → front ds ≡ ds
unfolding front
front_all [] h = refl
front_all (b ∷ ds) h = rw (within_is (digit 0) (digit 9) b h.0.0 h.0.1) (ap (λ (l : List ℕ). b ∷ l) (front_all ds h.1))

-- ---- they write its number

decimal_last : (v : ℕ) (ds : List ℕ) (b : ℕ) → decimal v (ds ++ (b ∷ [])) ≡ decimal v ds * 10 + (b - 48)
unfolding decimal
decimal_last v [] b = refl
decimal_last v (d ∷ ds) b = decimal_last (v * 10 + (d - 48)) ds b

decimal_below : (k x : ℕ) → x < k → decimal 0 (digits_below k x) ≡ x
unfolding digits_below decimal
decimal_below zero x l = absurd (omega arith)
decimal_below (suc k) x l =
    decimal_last 0 (higher (ltb x 10) (digits_below k) (x / 10)) (digit (x % 10)) ∙ go (split (ltb x 10)) (decimal_below k (x / 10))
  where
    go : (ltb x 10 ≡ true) ⊎ (ltb x 10 ≡ false) → (x / 10 < k → decimal 0 (digits_below k (x / 10)) ≡ x / 10)
        → decimal 0 (higher (ltb x 10) (digits_below k) (x / 10)) * 10 + (digit (x % 10) - 48) ≡ x
    go (inl e) f = let h = ltb-true x 10 e in rw e (omega arith)
    go (inr e) f = let h = ltb-false x 10 e in rw (e, f (omega arith)) (omega arith)

decimal_numeral : (x : ℕ) → decimal 0 (numeral x) ≡ x
unfolding numeral
decimal_numeral x = decimal_below (suc x) x (omega arith)

-- ---- it is allowed, and so it is the token of its number

not_zero_first : (ds : List ℕ) → NoLeadingZero ds → num ds 0 ≡ digit 0 → ⊥
not_zero_first [] h e = absurd h
not_zero_first (b ∷ ds) h e = omega arith

allowed_numeral : (x : ℕ) → suc x ≤ max_number → allowed (numeral (suc x)) ≡ true
unfolding allowed
allowed_numeral x l =
    rw (
      within_is 1 7 (length (numeral (suc x))) (length_some (suc x)) (length_few 6 (suc x) (omega arith)),
      ne_eqb (num (numeral (suc x)) 0) (digit 0) (not_zero_first (numeral (suc x)) (leading_numeral x)),
    )

unsigned_numeral : (on : Bool) (x : ℕ) → suc x ≤ max_number → unsigned on (numeral (suc x)) ≡ Number (valued on x) true
unfolding unsigned
unsigned_numeral on x l =
    rw (
      front_all (numeral (suc x)) (digits_numeral (suc x)),
      allowed_numeral x l,
      decimal_numeral (suc x),
      eq-eqb (length (numeral (suc x))) (length (numeral (suc x))) refl,
    )

-- a digit is no minus
digits_token : (w : List ℕ) → NoLeadingZero w → token w ≡ unsigned true w
unfolding token
digits_token [] h = absurd h
digits_token (b ∷ bs) h = rw (ne_eqb b 45 (λ e. omega arith))

pub numeral_token : (x : ℕ) → suc x ≤ max_number → token (numeral (suc x)) ≡ Number (On x) true
numeral_token x l = digits_token (numeral (suc x)) (leading_numeral x) ∙ unsigned_numeral true x l

pub minus_token : (x : ℕ) → suc x ≤ max_number → token (45 ∷ numeral (suc x)) ≡ Number (Off x) true
unfolding token
minus_token x l = unsigned_numeral false x l
