-- A text in parts: lines that end in LF (document 01, 'Calls and buffers', Checking), or words between spaces.
use Rattle.std.specs.Prelude.{Bool, true, false, List, ℕ}
use Rattle.lists.specs.Pieces.{Pieces, last, piece}

-- a part in front of the rest of its text; the last part has no byte behind it that ends it
abbrev pub joined : Bool → List ℕ → Pieces → Pieces
joined true p ps = piece p ps
joined false p ps = last p
