-- Demand 2 of replies: 'A solver's reply in 01's form and size is accepted exactly when it gives each variable one value and every clause
-- is true.' It is proved of `checked` in proofs/Accepted.
use Rattle.std.specs.Prelude.{◌≡◌, Bool, true, false, ◌||◌, cond, ◌↔◌, List, [], ◌∷◌, map, ℕ, suc, ◌≤◌, ◌<◌, eqb, length}
use Rattle.lists.specs.Rows.{tab}
use Rattle.lists.specs.Tests.{every}
use Rattle.job.specs.declared.Job.{Job}
use Rattle.job.specs.declared.Literal.{Literal}
use Rattle.job.specs.declared.Literal.TheVariants.{On}
use Rattle.job.specs.Literals.{Clause, place, has}
use Rattle.job.specs.Numbering.{total}
use Rattle.job.specs.Clauses.{clauses}
use Rattle.job.specs.InRange.{Below}
use Rattle.job.specs.Fitness.{fit}
use Rattle.job.specs.ReadOff.{byte}
use Rattle.tokens.specs.Numbers.{max_number}
use Rattle.reply.specs.Said.{Store}
use Rattle.reply.specs.Reply.{whole, heard_in}
use Rattle.reply.specs.Check.{accepted, max_reply, holding, checked}

-- ---- what a reply lists

-- every number is taken, also one past N and one that came before: no 62 and no 63
abbrev pub unchecked : Store (List Literal)
unchecked = record { has = λ ls x. false; put = λ ls l. l ∷ ls }

-- the reply has 01's form and lists these literals, the last first; 'at most 7 digits' are at most max_number
abbrev pub Lists : List ℕ → List Literal → Type 0
Lists reply listed = heard_in unchecked max_number [] reply ≡ whole listed

-- how often a number is listed, with either sign
unfoldable pub times : ℕ → List Literal → ℕ
times x [] = 0
times x (l ∷ ls) = cond (eqb x (place l)) (suc (times x ls)) (times x ls)

-- one of the clause's literals is listed
abbrev pub any_listed : List Literal → Clause → Bool
any_listed listed [] = false
any_listed listed (l ∷ ls) = has l listed || any_listed listed ls

-- 'one byte a variable, 1 for true': 1 where x is listed without a minus, else 0
abbrev pub values_listed : ℕ → List Literal → List ℕ
values_listed N listed = tab N λ x. byte (has (On x) listed)

-- ---- when it is accepted, of any table and any buffer

pub record Acceptable (J : Job) (reply work buffer : List ℕ) : Type 0 where
  pub fits : fit J ≡ true
  pub room : total J.program ≤ length work
  -- 'in 01's form and size'
  pub listed : List Literal
  pub form : Lists reply listed
  pub size : length reply ≤ max_reply
  -- 'gives each variable one value': no number past N, no number twice, none missing
  pub none_past : Below (total J.program) listed
  pub none_twice : (x : ℕ) → times x listed ≤ 1
  pub none_missing : (x : ℕ) → x < total J.program → 1 ≤ times x listed
  -- 'every clause is true': it has a literal that is listed
  pub all_true : every (map (any_listed listed) (clauses J)) ≡ true
  -- the buffer then: 'on .. acceptance they hold the reply', 'Bytes past the stated part are kept.'
  pub holds : buffer ≡ holding (total J.program) work (values_listed (total J.program) listed)

abbrev pub AcceptedExactly : Job → List ℕ → List ℕ → List ℕ → Type 0
AcceptedExactly J reply work buffer = (checked J reply work ≡ accepted buffer) ↔ Acceptable J reply work buffer
