-- What the numbers of a reply have said so far. A store has a number, or takes it with its sign.
use Rattle.std.specs.Prelude.{Bool, not, cond, List, [], ◌∷◌, ℕ, eqb, set}
use Rattle.lists.specs.Rows.{num}
use Rattle.job.specs.declared.Literal.{Literal}
use Rattle.job.specs.declared.Literal.TheVariants.{On, Off}
use Rattle.job.specs.Literals.{place}

pub record Store (S : Type 0) : Type 0 where
  pub has : S → ℕ → Bool
  pub put : S → Literal → S

-- what is said of place x: 0 nothing, 1 true, 2 false
unfoldable pub says : List Literal → ℕ → ℕ
says [] x = 0
says (On y ∷ ls) x = cond (eqb y x) 1 (says ls x)
says (Off y ∷ ls) x = cond (eqb y x) 2 (says ls x)

abbrev pub literals : Store (List Literal)
literals = record { has = λ ls x. not (eqb (says ls x) 0); put = λ ls l. l ∷ ls }

-- the same while the reply is read, as marks in the working buffer
abbrev pub mark : Literal → ℕ
mark (On x) = 1
mark (Off x) = 2

abbrev pub marks : Store (List ℕ)
marks = record { has = λ m x. not (eqb (num m x) 0); put = λ m l. set m (place l) (mark l) }
