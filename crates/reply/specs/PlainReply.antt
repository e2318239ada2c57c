-- The plain reply of values (document 01, 'Calls and buffers', Checking): `s SATISFIABLE`, then one line of `v`, each number in order
-- with a minus where its value is not 1, and the closing 0. With it no claim about accepted replies is empty. What is claimed of it is
-- proved of every fit table in proofs/PlainReply.
use Rattle.std.specs.Prelude.{◌≡◌, Bool, true, false, List, [], ◌∷◌, ◌++◌, ℕ, suc, ◌≤◌, eqb, length}
use Rattle.lists.specs.Numerals.{numeral}
use Rattle.job.specs.declared.Job.{Job}
use Rattle.job.specs.Numbering.{total}
use Rattle.job.specs.Meaning.{Run, is_run}
use Rattle.job.specs.Satisfaction.{are_values, satisfies}
use Rattle.job.specs.ReadOff.{read_off, run}
use Rattle.job.specs.RunToValues.{values_of}
use Rattle.tokens.specs.Kinds.{satisfiable}
use Rattle.reply.specs.Reply.{values, values_read}
use Rattle.reply.specs.Check.{accepted, max_reply, holding, checked}

-- number x + 1, with a minus where it is false
unfoldable pub signed_numeral : Bool → ℕ → List ℕ
signed_numeral true x = numeral (suc x)
signed_numeral false x = 45 ∷ numeral (suc x)

-- the values from place x on, a space behind each number, and the 0
unfoldable pub numbers_from : ℕ → List ℕ → List ℕ
numbers_from x [] = numeral 0
numbers_from x (v ∷ vs) = signed_numeral (eqb v 1) x ++ (32 ∷ numbers_from (suc x) vs)

-- 'lines end in LF'
abbrev pub ended : List ℕ → List ℕ
ended line = line ++ (10 ∷ [])

unfoldable pub plain_reply : List ℕ → List ℕ
plain_reply vs = ended satisfiable ++ ended (118 ∷ 32 ∷ numbers_from 0 vs)

pub record PlainReplies (J : Job) : Type 0 where
  -- it gives the values, and is not turned away for its length
  pub reads : (vs : List ℕ) → are_values J vs ≡ true → values_read (total J.program) (plain_reply vs) ≡ values vs
  pub short : (vs : List ℕ) → are_values J vs ≡ true → length (plain_reply vs) ≤ max_reply
  -- where the values satisfy the clauses, it is accepted and leaves them in the buffer
  pub accepts : (vs work : List ℕ) → satisfies J vs ≡ true → total J.program ≤ length work
      → checked J (plain_reply vs) work ≡ accepted (holding (total J.program) work vs)
  -- 'of any such run': the reply of its values is accepted, and they read off as that run
  pub of_a_run : (R : Run) (work : List ℕ) → is_run J R ≡ true → total J.program ≤ length work
      → (checked J (plain_reply (values_of J.program R)) work ≡ accepted (holding (total J.program) work (values_of J.program R)))
      × (read_off J.program (values_of J.program R) ≡ run R)
