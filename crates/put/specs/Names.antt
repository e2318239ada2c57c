-- The names of a table.
use Rattle.std.specs.Prelude.{List, ℕ, ◌+◌, ◌*◌, eqb}
use Rattle.lists.specs.Rows.{tab, num}
use Rattle.lists.specs.Places.{first}

-- name k of a table, counted from 0: four bytes, filled up with zeros
unfoldable pub name_at : List ℕ → ℕ → List ℕ
name_at names k = tab (first 4 λ j. eqb (num names (k * 4 + j)) 0) λ j. num names (k * 4 + j)
