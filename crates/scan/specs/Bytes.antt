-- Words and the bytes they are made of (document 01, 'The job text').
use Rattle.std.specs.Prelude.{ℕ, Bool, false, ◌&&◌, ◌||◌, List, [], ◌∷◌, drop}
use Rattle.std.specs.List.{list_all}
use Rattle.lists.specs.Tests.{within}
use Rattle.lists.specs.Pieces.{up_to}

-- the word that starts at a column and ends at the first stop or the line's end
abbrev pub word_at : ℕ → List ℕ → ℕ → List ℕ
word_at stop s column = up_to stop (drop column s)

unfoldable pub all_of : (ℕ → Bool) → List ℕ → Bool
all_of f s = list_all f s

-- 'letters or digits'
unfoldable pub alnum : ℕ → Bool
alnum b = within 48 57 b || (within 65 90 b || within 97 122 b)

-- letters or digits, the first from lo to hi
unfoldable pub headed : ℕ → ℕ → List ℕ → Bool
headed lo hi [] = false
headed lo hi (b ∷ bs) = within lo hi b && all_of alnum bs

-- 3: no 'byte outside 32 to 126'
abbrev pub plain : List ℕ → Bool
plain s = all_of (within 32 126) s
