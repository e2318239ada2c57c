-- Laws of words: a byte, how long a word is, and the same by the library's words.
use mathlib.Core.Path.{◌≡◌, refl, sym, ap, ◌∙◌}
use mathlib.Core.Bool.{Bool, true, false, not, cond}
use Rattle.std.specs.List.{take_while}
use Rattle.std.proofs.lemmas.List.{take_rest}
use Rattle.std.proofs.lemmas.List.Sums.{take_while-cons}
use mathlib.Core.List.{List, [], ◌∷◌}
use Prim.Native.Nat.{ℕ, min, ◌-◌, ◌≤◌, ◌<◌}
use native.Mathlib.Omega.{arith}
use native.Mathlib.Decide.{dec_lt}
use lib.Dec.{eqb}
use lib.ListN.{length, drop, take, drop_of_length-le, length-drop, get_or-eq_default}
use Rattle.lists.specs.Rows.{num}
use Rattle.lists.specs.Pieces.{up_to}
use Rattle.lists.proofs.PieceLaws.{length_up_to}
use Rattle.scan.specs.Bytes.{word_at}

-- ---- a byte

pub byte_out : (s : List ℕ) (i : ℕ) → length s ≤ i → 0 ≡ num s i
byte_out s i h = sym (get_or-eq_default s 0 h)

-- a byte that is not 0 stands in the text
pub byte_in : (s : List ℕ) (i : ℕ) → 0 < num s i → i < length s
byte_in s i h = go (dec_lt i (length s))
  where
    go : Dec (i < length s) → i < length s
    go (yes l) = l
    go (no l) = absurd (omega (arith, byte_out s i (omega arith)))

-- ---- how long a word is

pub word_length : (stop : ℕ) (s : List ℕ) (from : ℕ) → length (word_at stop s from) ≤ length s - from
word_length stop s from = omega (arith, length_up_to stop (drop from s), length-drop from s)

-- ---- the same by the library's words

pub passed_over : (stop : ℕ) (s : List ℕ) → up_to stop s ≡ take_while (λ b. not (eqb b stop)) s
unfolding up_to
passed_over stop [] = refl
passed_over stop (b ∷ bs) = go (eqb b stop) (passed_over stop bs) ∙ sym (take_while-cons (λ x. not (eqb x stop)) b bs)
  where
    go : (t : Bool) → up_to stop bs ≡ take_while (λ x. not (eqb x stop)) bs
        → cond t [] (b ∷ up_to stop bs) ≡ cond (not t) (b ∷ take_while (λ x. not (eqb x stop)) bs) []
    go true e = refl
    go false e = ap (λ l. b ∷ l) e

-- what is left from a column on, which past the line's end is nothing
pub rest_from : (column m : ℕ) (s : List ℕ) → m ≡ min column (length s) → take (length s - m) (drop m s) ≡ drop column s
rest_from column m s e =
    take_rest s m ∙ go (dec_lt column (length s))
  where
    go : Dec (column < length s) → drop m s ≡ drop column s
    go (yes h) = let same : m ≡ column = omega arith in rw same
    go (no h) = drop_of_length-le s {i = m} (omega arith) ∙ sym (drop_of_length-le s {i = column} (omega arith))
