-- Laws of lines: the first of a text and those behind it, and how long they are.
use mathlib.Core.Path.{◌≡◌, refl, sym, ap, ◌∙◌}
use mathlib.Core.Bool.{Bool, true, false, cond}
use mathlib.Core.List.{List, [], ◌∷◌}
use Prim.Native.Nat.{ℕ, suc, ◌+◌, ◌≤◌, ◌<◌}
use native.Mathlib.Omega.{arith}
use native.Mathlib.Decide.{ℕ_discrete}
use native.Mathlib.Numerals.{add-one}
use borrow.Author.Tests.{lt-ltb, le-ltb}
use lib.Dec.{eqb, ltb}
use lib.ListN.{length, drop, take, drop_of_length-le}
use lib.Seq.{take-length}
use Rattle.lists.specs.Pieces.{Pieces, last, piece, onto, cut, up_to}
use Rattle.lists.proofs.PieceLaws.{length_up_to, cut_all, cut_first}
use Rattle.scan.specs.Lines.{row, rows, lines, size}

-- a last piece that is not empty is a line without LF
open_row : (p : List ℕ) → 0 < length p → rows (last p) ≡ row p false ∷ []
unfolding rows
open_row [] h = absurd (omega arith)
open_row (b ∷ bs) h = refl

pub lines_none : (text : List ℕ) → length text ≡ 0 → lines text ≡ []
unfolding lines rows cut
lines_none [] h = refl
lines_none (b ∷ bs) h = absurd (omega arith)

-- the first line of a text that is not empty ends where its first LF stands, or where the text ends
pub lines_first : (text : List ℕ) (k : ℕ) → 0 < length text → k ≡ length (up_to 10 text)
    → lines text ≡ row (take k text) (ltb k (length text)) ∷ lines (drop (k + 1) text)
unfolding lines rows cut
lines_first text k h e = go (ℕ_discrete k (length text))
  where
    go : Dec (k ≡ length text) → rows (cut 10 text) ≡ row (take k text) (ltb k (length text)) ∷ rows (cut 10 (drop (k + 1) text))
    go (yes z) =
        let none = drop_of_length-le text {i = k + 1} (omega arith) in
        let all : take k text ≡ text = ap (λ (n : ℕ). take n text) z ∙ take-length text in
        ap rows (cut_all 10 text (sym e ∙ z)) ∙ open_row text h ∙ rw (none, all, le-ltb k (length text) (omega arith))
    go (no z) =
        let less : k < length text = omega (arith, z, length_up_to 10 text) in
        ap rows (cut_first 10 text (omega arith)) ∙ rw (lt-ltb k (length text) less, add-one k, e)

-- ---- how long lines are

-- a text's lines are no longer than the text, but for an LF that is missing
pub lines_size : (text : List ℕ) → size (lines text) ≤ length text + 1
unfolding lines rows cut
lines_size [] = omega arith
lines_size (b ∷ bs) = go (eqb b 10) (cut 10 bs) (lines_size bs)
  where
    go : (t : Bool) (p : Pieces) → size (rows p) ≤ length bs + 1
        → size (rows (cond t (piece [] p) (onto b p))) ≤ suc (length bs) + 1
    go true p h = omega arith
    go false (last []) h = omega arith
    go false (last (x ∷ xs)) h = omega arith
    go false (piece p ps) h = omega arith

-- each has a byte, which may be its LF
pub lines_few : (text : List ℕ) → length (lines text) ≤ length text
unfolding lines rows cut
lines_few [] = omega arith
lines_few (b ∷ bs) = go (eqb b 10) (cut 10 bs) (lines_few bs)
  where
    go : (t : Bool) (p : Pieces) → length (rows p) ≤ length bs → length (rows (cond t (piece [] p) (onto b p))) ≤ suc (length bs)
    go true p h = omega arith
    go false (last []) h = omega arith
    go false (last (x ∷ xs)) h = omega arith
    go false (piece p ps) h = omega arith
