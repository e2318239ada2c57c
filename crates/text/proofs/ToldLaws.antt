-- Laws of one number's text: its sign, the digits, and the byte behind them.
use mathlib.Core.Path.{◌≡◌, refl, ◌∙◌}
use mathlib.Core.Bool.{Bool, true, false, cond}
use mathlib.Core.List.{List, [], ◌∷◌, ◌++◌}
use Prim.Native.Nat.{ℕ, zero, suc, ◌+◌, ◌-◌, ◌≤◌, ◌<◌}
use native.Mathlib.Omega.{arith}
use borrow.Author.Tests.{le-ltb}
use lib.IntN.{ℤ, pos, negsuc, nat_abs}
use lib.ListN.{length, length-append, set, take, drop}
use lib.Signed.{lt_z}
use mir.Val.{bool_byte}
use Rattle.lists.specs.Numerals.{numeral}
use Rattle.lists.specs.Writing.{write}
use Rattle.lists.proofs.WritingLaws.{write_none, write_one, write_more, write_end}
use Rattle.text.proofs.DigitLaws.{digits_put}
use Rattle.text.specs.Bytes.{lf, space, minus}
use Rattle.text.specs.Dimacs.{told}

-- where the number is below 0
abbrev pub sign_of : Bool → List ℕ
sign_of b = cond b (minus ∷ []) []

abbrev pub sign : ℤ → List ℕ
sign z = sign_of (lt_z z (pos 0))

abbrev pub closing : ℕ → ℕ
closing zero = lf
closing (suc x) = space

pub closing_more : (n : ℕ) → (n ≡ 0 → ⊥) → closing n ≡ space
closing_more zero h = absurd (h refl)
closing_more (suc n) h = refl

pub told_parts : (z : ℤ) → told z ≡ sign z ++ numeral (nat_abs z) ++ (closing (nat_abs z) ∷ [])
unfolding told
told_parts (pos zero) = refl
told_parts (pos (suc x)) = rw (le-ltb (suc x) 0 (omega arith))
told_parts (negsuc x) = refl

pub sign_length : (b : Bool) → (length (sign_of b) ≡ bool_byte b) × (bool_byte b ≤ 1)
sign_length true = (refl, omega arith)
sign_length false = (refl, omega arith)

pub length_parts : (z : ℤ) → length (told z) ≡ length (sign z) + length (numeral (nat_abs z)) + 1
length_parts z = rw (told_parts z) (simp length-append (omega arith))

pub length_told : (z : ℤ) → length (told z) ≡ bool_byte (lt_z z (pos 0)) + length (numeral (nat_abs z)) + 1
length_told z = omega (arith, length_parts z, sign_length (lt_z z (pos 0)))

-- ---- the parts written one behind the other

module _ (l : List ℕ) (at : ℕ) (z : ℤ) where
  pub sign_written : at < length l → lt_z z (pos 0) ≡ true → set l at minus ≡ write l at (sign z)
  sign_written h e = rw e (write_one l at minus h)

  pub sign_none : lt_z z (pos 0) ≡ false → l ≡ write l at (sign z)
  sign_none e = rw e (write_none l at)

  -- the sign, then the digits, which end before the last byte, and then that byte
  pub told_written : (end : ℕ) → end ≡ at + length (told z) → end ≤ length l → (signed : List ℕ) → signed ≡ write l at (sign z)
      → (from : ℕ) (new : List ℕ) → from + length (numeral (nat_abs z)) ≡ end - 1
      → drop from new ≡ numeral (nat_abs z) ++ drop (end - 1) signed → take from new ≡ take from signed
      → set new (end - 1) (closing (nat_abs z)) ≡ write l at (told z)
  told_written end is room signed s from new start behind front =
      let ds = numeral (nat_abs z) in
      let n = length_parts z in
      let both = length-append (sign z) ds in
      let e : from ≡ at + length (sign z) = omega (arith, n) in
      let last : end - 1 ≡ at + length (sign z ++ ds) = omega (arith, n, both) in
      let digits : new ≡ write l at (sign z ++ ds) =
      digits_put signed new ds from (end - 1) start behind front
      ∙ rw (s, e) (write_more l at (sign z) ds (omega (arith, n))) in
      rw (digits, last, told_parts z)
      (write_end l at (sign z ++ ds) (closing (nat_abs z)) (omega (arith, n, both)))
