-- Checking a reply (document 01, 'Calls and buffers'): the answer and the whole working buffer, on every input.
-- 'Order: 45, .. 51, .. 60, then reading order (62 before 63), 64, 65'; 66 is met in reading order.
use Rattle.std.specs.Prelude.{not, cond, List, ◌++◌, ℕ, ltb, length, drop}
use Rattle.lists.specs.Rows.{tab}
use Rattle.job.specs.declared.Job.{Job}
use Rattle.job.specs.Numbering.{total}
use Rattle.job.specs.Clauses.{clauses}
use Rattle.job.specs.Fitness.{fit}
use Rattle.job.specs.Satisfaction.{false_clause}
use Rattle.reply.specs.Reply.{Read, refusal, values, values_read}

-- acceptance, or the number and place of a refusal; each with the working buffer
pub data Outcome : Type 0 where
  accepted : List ℕ → Outcome
  refused : ℕ → ℕ → List ℕ → Outcome

-- 60: 'reply over 16,777,216 bytes'
abbrev pub max_reply : ℕ
max_reply = 16777216

-- 'On 61 to 64 and 66 the working buffer's first N bytes (N variables) are 0' .. 'Bytes past the stated part are kept.'
abbrev pub blank : ℕ → List ℕ → List ℕ
blank N work = tab N (λ x. 0) ++ drop N work

-- 'on 65 and acceptance they hold the reply'
abbrev pub holding : ℕ → List ℕ → List ℕ → List ℕ
holding N work vs = vs ++ drop N work

-- 65 'clause false', the first; past the last clause there is none
abbrev pub judged : Job → List ℕ → List ℕ → Outcome
judged J vs buffer =
    cond (ltb (length (clauses J)) (false_clause J vs)) (accepted buffer) (refused 65 (false_clause J vs) buffer)

abbrev pub weighed : Job → List ℕ → Read → Outcome
weighed J work (refusal c k) = refused c k (blank (total J.program) work)
weighed J work (values vs) = judged J vs (holding (total J.program) work vs)

-- 'Every other refusal changes nothing.' .. 'The place is 0 unless given.'
unfoldable pub checked : Job → List ℕ → List ℕ → Outcome
checked J reply work =
    cond (not (fit J)) (refused 45 0 work)
    (cond (ltb (length work) (total J.program)) (refused 51 0 work)
    (cond (ltb max_reply (length reply)) (refused 60 0 work) (weighed J work (values_read (total J.program) reply))))
