-- Laws of a table's names: their length, and the part of the table that a name is.
use mathlib.Core.Path.{◌≡◌, refl, sym, ap, ◌∙◌}
use mathlib.Core.Bool.{Bool}
use mathlib.Core.List.{List, []}
use Prim.Native.Nat.{ℕ, zero, suc, ◌+◌, ◌*◌, ◌-◌, ◌≤◌, ◌<◌}
use native.Mathlib.Omega.{arith}
use borrow.Author.Tests.{eq-eqb, ne_eqb}
use lib.Dec.{eqb}
use lib.ListN.{length, take, drop, length-drop}
use lib.Seq.{take-suc, get_or-drop}
use Rattle.lists.specs.Rows.{each, tab, num}
use Rattle.lists.specs.Places.{first}
use Rattle.lists.proofs.RowLaws.{length_tab}
use Rattle.lists.proofs.PlaceLaws.{first_zero, first_most, first_none, first_found}
use Rattle.scan.proofs.WordLaws.{byte_out, byte_in}
use Rattle.put.specs.Names.{name_at}

-- the n bytes from place b on
part_tab : (s : List ℕ) (b n : ℕ) → b + n ≤ length s → take n (drop b s) ≡ tab n (λ j. num s (b + j))
unfolding each
part_tab s b zero h = refl
part_tab s b (suc n) h = rw (take-suc (drop b s) n 0 (rw length-drop (omega arith)), part_tab s b n (omega arith), get_or-drop)

module _ (names : List ℕ) (k : ℕ) where
  -- byte j of the name, and whether the name ends there
  abbrev pub letter : ℕ → ℕ
  letter j = num names (k * 4 + j)

  abbrev pub ends : ℕ → Bool
  ends j = eqb (letter j) 0

  name_size : length (name_at names k) ≡ first 4 ends
  unfolding name_at
  name_size = length_tab (first 4 ends) letter

  pub name_short : length (name_at names k) ≤ 4
  name_short = omega (arith, name_size, first_most ends 4)

  -- the name ends at byte i, or has all four
  pub name_ends : (i x : ℕ) → i < 4 → first i ends ≡ i → x ≡ letter i → x ≡ 0 → i ≡ length (name_at names k)
  name_ends i x l f e z = sym (name_size ∙ first_found ends i 4 f (eq-eqb (letter i) 0 (sym e ∙ z)) l)

  pub name_full : (i : ℕ) → i ≡ 4 → first i ends ≡ i → i ≡ length (name_at names k)
  name_full i e f = sym (name_size ∙ rw (← e) f)

  -- a row of so many bytes is the name
  pub name_is : (i : ℕ) → i ≡ length (name_at names k) → tab i letter ≡ name_at names k
  unfolding name_at
  name_is i e = ap (λ n. tab n letter) (e ∙ name_size)

  pub name_goes_on : (i x : ℕ) → first i ends ≡ i → x ≡ letter i → (x ≡ 0 → ⊥) → (first (i + 1) ends ≡ i + 1) × (k * 4 + i < length names)
  name_goes_on i x f e z =
      (first_none ends i f (ne_eqb (letter i) 0 (λ y. z (e ∙ y))), byte_in names (k * 4 + i) (omega arith))

  -- past the table the name is empty
  pub name_past : length names ≤ k * 4 → name_at names k ≡ []
  unfolding name_at each
  name_past h = rw (first_found ends 0 4 (first_zero ends) (eq-eqb (letter 0) 0 (sym (byte_out names (k * 4 + 0) (omega arith))))
      (omega arith))

  -- the name is the part of the table before the place end
  pub name_part : (end : ℕ) → end ≡ k * 4 + length (name_at names k) → end ≤ length names → take (end - k * 4) (drop (k * 4) names)
      ≡ name_at names k
  unfolding name_at
  name_part end e h =
      let n : end - k * 4 ≡ first 4 ends = omega (arith, name_size) in
      rw n (part_tab names (k * 4) (first 4 ends) (omega (arith, name_size)))
