-- The comments of a text are at most twice as long as it: a comment line grows by two bytes and has, with its LF, at least two; what a
-- last line lacks is made up for by the LF of line 1, which is not printed.
use mathlib.Core.Path.{◌≡◌, refl, ap}
use mathlib.Core.Bool.{Bool, true, false, cond}
use mathlib.Core.Logic.{◌⊎◌, inl, inr}
use mathlib.Core.List.{List, [], ◌∷◌, ◌++◌}
use Prim.Native.Nat.{ℕ, suc, ◌+◌, ◌*◌, ◌≤◌}
use native.Mathlib.Omega.{arith}
use lib.Dec.{eqb}
use lib.ListN.{length, drop, length-append}
use Rattle.lists.specs.Pieces.{Pieces, last, piece, onto, cut}
use Rattle.lists.proofs.Logic.{split}
use Rattle.lists.proofs.PieceLaws.{starts_length}
use Rattle.scan.specs.Lines.{rows, lines}
use Rattle.program.specs.ProgramLine.{is_lemmas, is_comment}
use Rattle.text.specs.Comments.{remark, remarks, comments}
use Rattle.text.proofs.CommentLaws.{remark_long, remark_not}

-- the bytes of a text in pieces, with those that end a piece
size : Pieces → ℕ
size (last p) = length p
size (piece p ps) = suc (length p + size ps)

onto_size : (b : ℕ) (ps : Pieces) → size (onto b ps) ≡ suc (size ps)
unfolding size
onto_size b (last p) = refl
onto_size b (piece p ps) = omega arith

cut_size : (k : ℕ) (text : List ℕ) → size (cut k text) ≡ length text
unfolding size cut
cut_size k [] = refl
cut_size k (b ∷ bs) = go (eqb b k) (cut_size k bs)
  where
    go : (t : Bool) → size (cut k bs) ≡ length bs → size (cond t (piece [] (cut k bs)) (onto b (cut k bs))) ≡ suc (length bs)
    go true e = omega arith
    go false e = omega (arith, onto_size b (cut k bs))

remark_twice : (line : List ℕ) → length (remark line) ≤ 2 * length line + 2
unfolding is_comment
remark_twice line = go (split (is_comment line))
  where
    go : (is_comment line ≡ true) ⊎ (is_comment line ≡ false) → length (remark line) ≤ 2 * length line + 2
    go (inl e) = omega (arith, remark_long line e, starts_length (126 ∷ []) line e)
    go (inr e) = omega (arith, ap length (remark_not line e))

remarks_twice : (ps : Pieces) → length (remarks (rows ps)) ≤ 2 * size ps + 2
unfolding size rows remarks
remarks_twice (last []) = omega arith
remarks_twice (last (b ∷ bs)) = go (is_lemmas (b ∷ bs)) (remark_twice (b ∷ bs))
  where
    go : (t : Bool) → length (remark (b ∷ bs)) ≤ 2 * length (b ∷ bs) + 2
        → length (cond t [] (remark (b ∷ bs) ++ [])) ≤ 2 * length (b ∷ bs) + 2
    go true h = omega arith
    go false h = rw length-append (omega arith)
remarks_twice (piece p ps) = go (is_lemmas p) (remark_twice p) (remarks_twice ps)
  where
    go : (t : Bool) → length (remark p) ≤ 2 * length p + 2 → length (remarks (rows ps)) ≤ 2 * size ps + 2
        → length (cond t [] (remark p ++ remarks (rows ps))) ≤ 2 * suc (length p + size ps) + 2
    go true h i = omega arith
    go false h i = rw length-append (omega arith)

pub comments_twice : (text : List ℕ) → length (comments text) ≤ 2 * length text
unfolding comments lines size rows remarks
comments_twice text = go (cut 10 text) (cut_size 10 text)
  where
    go : (ps : Pieces) → size ps ≡ length text → length (remarks (drop 1 (rows ps))) ≤ 2 * length text
    go (last []) e = omega arith
    go (last (b ∷ bs)) e = omega arith
    go (piece p ps) e = omega (arith, remarks_twice ps)
