-- A whole reply: its values, or the number and place of a refusal of 61 to 64 or 66.
use Rattle.std.specs.Prelude.{cond, List, [], Option, None, Some, ℕ, suc, eqb, ltb}
use Rattle.lists.specs.Rows.{tab}
use Rattle.lists.specs.Places.{first}
use Rattle.lists.specs.Pieces.{Pieces, cut}
use Rattle.job.specs.declared.Literal.{Literal}
use Rattle.reply.specs.Said.{Store, says, literals}
use Rattle.reply.specs.Lines.{Opened, stopped, begun, Told, halted, told, opening, value_lines_in, closing}

-- ---- its form: what is said in the end, or the number and line of a fault

pub data Heard (S : Type 0) : Type 0 where
  turned : ℕ → ℕ → S → Heard S
  whole : S → Heard S

module _ {S : Type 0} where
  abbrev pub ended : S → Option ℕ → Heard S
  ended m None = whole m
  ended m (Some k) = turned 61 k m

  abbrev pub spoken : Told S → Heard S
  spoken (halted c k m) = turned c k m
  spoken (told k ps m) = ended m (closing k ps)

  abbrev pub started : S → Opened → (ℕ → Pieces → Heard S) → Heard S
  started m (stopped c k) next = turned c k m
  started m (begun k ps) next = next k ps

unfoldable pub heard_in : {S : Type 0} → Store S → ℕ → S → List ℕ → Heard S
heard_in st N m reply = started m (opening 1 (cut 10 reply)) (λ k ps. spoken (value_lines_in st N k m ps))

-- ---- its values

pub data Read : Type 0 where
  refusal : ℕ → ℕ → Read
  values : List ℕ → Read

-- 'one byte a variable, 1 for true'
abbrev pub truth : ℕ → ℕ
truth said = cond (eqb said 1) 1 0

-- the first number of which nothing is said, from 0, or N
abbrev pub missing : ℕ → (ℕ → ℕ) → ℕ
missing N say = first N λ x. eqb (say x) 0

-- 64 'number missing', the smallest: 'after every fault of form' (reading 20)
abbrev pub completed : ℕ → Heard (List Literal) → Read
completed N (turned c k ls) = refusal c k
completed N (whole ls) =
    cond (ltb (missing N (says ls)) N) (refusal 64 (suc (missing N (says ls)))) (values (tab N λ x. truth (says ls x)))

unfoldable pub values_read : ℕ → List ℕ → Read
values_read N reply = completed N (heard_in literals N [] reply)
