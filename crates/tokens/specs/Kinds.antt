-- The kinds of a reply's lines (document 01, 'Calls and buffers', Checking).
use Rattle.std.specs.Prelude.{cond, List, [], ◌∷◌, ℕ}
use Rattle.lists.specs.Pieces.{starts, is}
use Rattle.tokens.specs.declared.Kind.{Kind}
use Rattle.tokens.specs.declared.Kind.TheVariants.{Comment, Satisfiable, Unsatisfiable, Values, Other}

-- `s SATISFIABLE`
abbrev pub satisfiable : List ℕ
satisfiable = 115 ∷ 32 ∷ 83 ∷ 65 ∷ 84 ∷ 73 ∷ 83 ∷ 70 ∷ 73 ∷ 65 ∷ 66 ∷ 76 ∷ 69 ∷ []

-- `s UNSATISFIABLE`
abbrev pub unsatisfiable : List ℕ
unsatisfiable = 115 ∷ 32 ∷ 85 ∷ 78 ∷ 83 ∷ 65 ∷ 84 ∷ 73 ∷ 83 ∷ 70 ∷ 73 ∷ 65 ∷ 66 ∷ 76 ∷ 69 ∷ []

-- 'Lines that begin `c`'; `s SATISFIABLE`; `s UNSATISFIABLE`; 'lines of `v` and one or more numbers', with its space
unfoldable pub kind_of : List ℕ → Kind
kind_of p =
    cond (starts (99 ∷ []) p) Comment
    (cond (is satisfiable p) Satisfiable (cond (is unsatisfiable p) Unsatisfiable (cond (starts (118 ∷ 32 ∷ []) p) Values Other)))
