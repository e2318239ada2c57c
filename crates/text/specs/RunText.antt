-- The lines of a run (document 01, 'A job in full'): 'time, steps, bits, turn'.
use Rattle.std.specs.Prelude.{cond, List, [], ◌∷◌, ◌++◌, ℕ, suc, ◌+◌, ◌*◌, ◌-◌, eqb, leb}
use Rattle.lists.specs.Rows.{each}
use Rattle.lists.specs.Tests.{every}
use Rattle.job.specs.declared.Job.{Job}
use Rattle.job.specs.Limits.{max_bound, max_steps}
use Rattle.job.specs.Table.{n, r}
use Rattle.job.specs.RunToValues.{group_byte}
use Rattle.put.specs.Names.{name_at}
use Rattle.lists.specs.Numerals.{numeral}
use Rattle.text.specs.Bytes.{lf, space, equals}

-- a name behind a space
abbrev pub word : List ℕ → ℕ → List ℕ
word names k = space ∷ name_at names k

-- `a=0` behind a space
abbrev pub bit_text : List ℕ → ℕ → ℕ → List ℕ
bit_text names x b = word names x ++ (equals ∷ []) ++ numeral b

-- the bits of a group, whose bytes are A's step number, B's, each bit, turn
abbrev pub bits_text : List ℕ → ℕ → (ℕ → ℕ) → List ℕ
bits_text names n group = each n λ x. bit_text names x (group (2 + x))

-- 'turn (1 A, 2 B, 0 last)'
unfoldable pub turn_text : ℕ → List ℕ
turn_text b = cond (eqb b 1) (space ∷ 65 ∷ []) (cond (eqb b 2) (space ∷ 66 ∷ []) [])

-- time and steps
unfoldable pub steps_text : List ℕ → (ℕ → ℕ) → ℕ → List ℕ
steps_text labels group t = numeral t ++ word labels (group 0 - 1) ++ word labels (group 1 - 1)

-- the line of time t
unfoldable pub line_text : List ℕ → List ℕ → ℕ → (ℕ → ℕ) → ℕ → List ℕ
line_text labels names n group t =
    steps_text labels group t ++ bits_text names n group ++ turn_text (group (2 + n)) ++ (lf ∷ [])

-- its room in a run with n variables: a time of two digits, two steps, the bits, the turn, LF; a name has four bytes at most
abbrev pub run_line_room : ℕ → ℕ
run_line_room n = 2 + 5 + 5 + n * 7 + 2 + 1

-- line t of a run
abbrev pub run_line : Job → List ℕ → ℕ → List ℕ
run_line J bs t = line_text J.labels J.names (n J.program) (group_byte J.program bs t) t

-- one for each time; a table beyond the limits has none
unfoldable pub run_lines : Job → ℕ
run_lines J =
    let P = J.program in
    cond (every (leb (r P) max_bound ∷ leb (n P) max_steps ∷ [])) (suc (r P)) 0
