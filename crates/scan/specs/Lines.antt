-- 'Lines end in LF' (document 01, 'The job text').
use Rattle.std.specs.Prelude.{ℕ, ◌+◌, Bool, true, false, List, [], ◌∷◌, length}
use Rattle.lists.specs.Pieces.{Pieces, last, piece, cut}

-- a line's bytes, and whether its LF is there
pub record Row : Type 0 where
  pub bytes : List ℕ
  pub ended : Bool

abbrev pub row : List ℕ → Bool → Row
row bytes ended = record { bytes = bytes; ended = ended }

-- behind the last LF there is a line only where there are bytes
unfoldable pub rows : Pieces → List Row
rows (last []) = []
rows (last (b ∷ bs)) = row (b ∷ bs) false ∷ []
rows (piece p ps) = row p true ∷ rows ps

unfoldable pub lines : List ℕ → List Row
lines text = rows (cut 10 text)

-- the bytes of these lines, and an LF each
abbrev pub size : List Row → ℕ
size [] = 0
size (l ∷ ls) = length l.bytes + 1 + size ls
