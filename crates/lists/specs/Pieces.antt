-- A text cut into pieces at a byte (lines at LF, words at spaces), and how a text begins.
use Rattle.std.specs.Prelude.{Bool, true, false, ◌&&◌, cond, List, [], ◌∷◌, ℕ, eqb, length}

-- pieces that the byte ends, and the last, which it does not end
pub data Pieces : Type 0 where
  last : List ℕ → Pieces
  piece : List ℕ → Pieces → Pieces

-- one more byte in front of the first piece
abbrev pub onto : ℕ → Pieces → Pieces
onto b (last p) = last (b ∷ p)
onto b (piece p ps) = piece (b ∷ p) ps

unfoldable pub cut : ℕ → List ℕ → Pieces
cut k [] = last []
cut k (b ∷ bs) = cond (eqb b k) (piece [] (cut k bs)) (onto b (cut k bs))

-- the bytes up to the first k, or all
unfoldable pub up_to : ℕ → List ℕ → List ℕ
up_to k [] = []
up_to k (b ∷ bs) = cond (eqb b k) [] (b ∷ up_to k bs)

-- the text p begins with t
unfoldable pub starts : List ℕ → List ℕ → Bool
starts [] p = true
starts (x ∷ xs) [] = false
starts (x ∷ xs) (b ∷ bs) = eqb b x && starts xs bs

-- the text p is t
unfoldable pub is : List ℕ → List ℕ → Bool
is t p = eqb (length p) (length t) && starts t p
