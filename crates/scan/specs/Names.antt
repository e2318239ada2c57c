-- 'The scan for a name stops at the first entry that matches' (document 01, 'The job text').
use Rattle.std.specs.Prelude.{ℕ, ◌+◌, ◌*◌, Bool, Option, List, eqb}
use Rattle.lists.specs.Rows.{num}
use Rattle.lists.specs.Tests.{all}
use Rattle.lists.specs.Places.{first, found}

-- entry i of a list of names, four bytes each and filled up with 0, is the word w
unfoldable pub entry_is : List ℕ → List ℕ → ℕ → Bool
entry_is names w i = all 4 λ j. eqb (num names (i * 4 + j)) (num w j)

-- the first of count entries that is w, counted from 0
unfoldable pub lookup : List ℕ → ℕ → List ℕ → Option ℕ
lookup names count w = found count (first count (entry_is names w))
