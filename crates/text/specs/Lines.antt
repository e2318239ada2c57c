-- The header and a refusal (document 01, 'A job in full').
use Rattle.std.specs.Prelude.{List, [], ◌∷◌, ◌++◌, ℕ, ◌+◌}
use Rattle.job.specs.Faults.{number_of}
use Rattle.job.specs.declared.refusal.Refusal.{Refusal}
use Rattle.lists.specs.Numerals.{numeral}
use Rattle.text.specs.Bytes.{lf}

-- two numbers, each behind its word
unfoldable pub sentence : List ℕ → ℕ → List ℕ → ℕ → List ℕ
sentence first x second y = first ++ numeral x ++ second ++ numeral y ++ (lf ∷ [])

-- its room where the words have eight bytes at most: twenty digits hold a number of 64 bits
abbrev pub line_room : ℕ
line_room = 8 + 20 + 8 + 20 + 1

-- `p cnf V C`
abbrev pub header : ℕ → ℕ → List ℕ
header variables clauses = sentence (112 ∷ 32 ∷ 99 ∷ 110 ∷ 102 ∷ 32 ∷ []) variables (32 ∷ []) clauses

-- `refused N at P`
abbrev pub refusal_line : ℕ → ℕ → List ℕ
refusal_line number place =
    sentence (114 ∷ 101 ∷ 102 ∷ 117 ∷ 115 ∷ 101 ∷ 100 ∷ 32 ∷ []) number (32 ∷ 97 ∷ 116 ∷ 32 ∷ []) place

abbrev pub refused : Refusal → List ℕ
refused r = refusal_line (number_of r.fault) r.place
