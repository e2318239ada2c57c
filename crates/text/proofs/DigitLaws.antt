-- Laws of digits: how many there are, by the power of ten below, and that the standard library's are the same.
use mathlib.Core.Path.{◌≡◌, sym, ◌∙◌}
use mathlib.Core.List.{List, ◌++◌, append_assoc}
use Prim.Native.Nat.{ℕ, zero, suc, ◌+◌, ◌*◌, ◌^◌, ◌≤◌, ◌<◌, ◌/◌}
use native.Mathlib.Omega.{arith}
use lib.ListN.{length, take, drop, take-append-drop}
use Rattle.std.specs.Fmt.{decimal}
use Rattle.std.proofs.lemmas.Fmt.{decimal_by_steps}
use Rattle.lists.specs.Numerals.{numeral}
use Rattle.lists.specs.Writing.{write}
use Rattle.lists.proofs.NumeralLaws.{numeral_small, numeral_more, length_small, length_more}

pub length_tens : (k x : ℕ) → 10 ^ k ≤ x → x < 10 * 10 ^ k → length (numeral x) ≡ k + 1
length_tens zero x h l = length_small x (omega arith)
length_tens (suc k) x h l =
    let e = length_tens k (x / 10) (omega arith) (omega arith) in
    omega (arith, length_more x (omega arith))

pub decimal_numeral : (x : ℕ) → x < 2 ^ 64 → decimal x ≡ numeral x
decimal_numeral = decimal_by_steps (λ x ds. ds ≡ numeral x) (λ x l. sym (numeral_small x l)) (λ x ds l e. rw e (sym (numeral_more x l)))

-- digits in front of what stood behind their end, behind what stood there, are a part put there
pub digits_put : (old new ds : List ℕ) (at end : ℕ) → at + length ds ≡ end → drop at new ≡ ds ++ drop end old → take at new ≡ take at old
    → new ≡ write old at ds
digits_put old new ds at end h behind front =
    sym (take-append-drop at new) ∙ rw (front, behind, h) (sym (append_assoc (take at old) ds (drop end old)))
