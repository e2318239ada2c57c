-- A reply is accepted exactly when it is acceptable: `accepted_exactly`, since its values satisfy the clauses exactly when every clause
-- has a listed literal. So demand 3 holds of it: its first N bytes satisfy the clauses and read off as a run.
use mathlib.Core.Path.{◌≡◌, sym, ap, ◌∙◌}
use mathlib.Core.Bool.{true}
use mathlib.Core.List.{List, map}
use Prim.Native.Nat.{ℕ}
use native.Mathlib.Omega.{arith}
use lib.ListN.{take, drop}
use lib.Seq.{take_at}
use Rattle.lists.specs.Tests.{every}
use Rattle.lists.proofs.TestLaws.{passed}
use Rattle.job.specs.declared.Job.{Job}
use Rattle.job.specs.declared.Literal.{Literal}
use Rattle.job.specs.Literals.{any_true}
use Rattle.job.specs.Numbering.{total}
use Rattle.job.specs.Clauses.{clauses}
use Rattle.job.specs.Meaning.{Run, is_run}
use Rattle.job.specs.Satisfaction.{value_at, satisfies}
use Rattle.job.specs.ReadOff.{read_off, run}
use Rattle.job.proofs.InRange.{in_range}
use Rattle.job.proofs.Accuracy.{accuracy}
use Rattle.totals.proofs.Largest.{total_most}
use Rattle.reply.specs.Check.{accepted, holding, checked}
use Rattle.reply.specs.Acceptance.{any_listed, values_listed, Acceptable, AcceptedExactly}
use Rattle.reply.proofs.ReplyLaws.{read_complete, complete_reads, read_values}
use Rattle.reply.proofs.ListedLaws.{values_listed_lem, said_listed, listed_said, all_listed}
use Rattle.reply.proofs.DistinctLaws.{listed_heard, heard_listed}
use Rattle.reply.proofs.Satisfying.{Satisfying, all_satisfied, accepted_satisfying, satisfying_accepted}

module _ (J : Job) (reply work buffer : List ℕ) where
  abbrev N : ℕ
  N = total J.program

  -- ---- values that satisfy the clauses, and literals that are listed

  satisfying_acceptable : Satisfying J reply work buffer → Acceptable J reply work buffer
  unfolding satisfies
  satisfying_acceptable s =
      let c = read_complete N reply s.said s.reads in
      let ls : List Literal = c.listed in
      let (form, distinct) = heard_listed N reply ls (omega (arith, total_most J s.fits)) c.heard in
      let all = said_listed N ls distinct.none_twice c.all in
      let vs : s.said ≡ values_listed N ls = c.are ∙ values_listed_lem N ls distinct.none_twice in
      let (_, (true_all, _)) = passed _ s.satisfied in
      let tests : map (any_true (value_at s.said)) (clauses J) ≡ map (any_listed ls) (clauses J) =
      ap (λ us. map (any_true (value_at us)) (clauses J)) vs
      ∙ all_listed N ls distinct.none_twice all (clauses J) (in_range J s.fits) in
      record {
        fits = s.fits;
        room = s.room;
        listed = ls;
        form = form;
        size = s.short;
        none_past = distinct.none_past;
        none_twice = distinct.none_twice;
        none_missing = all;
        all_true = ap every (sym tests) ∙ true_all;
        holds = s.holds ∙ ap (holding N work) vs;
      }

  acceptable_satisfying : Acceptable J reply work buffer → Satisfying J reply work buffer
  acceptable_satisfying a =
      let ls : List Literal = a.listed in
      let vs = values_listed N ls in
      let heard = listed_heard N reply ls a.form (record { none_past = a.none_past; none_twice = a.none_twice }) in
      let reads = complete_reads N reply vs (record {
        listed = ls;
        heard = heard;
        all = listed_said N ls a.none_twice a.none_missing;
        are = sym (values_listed_lem N ls a.none_twice);
      }) in
      let tests = all_listed N ls a.none_twice a.none_missing (clauses J) (in_range J a.fits) in
      record {
        fits = a.fits;
        room = a.room;
        short = a.size;
        said = vs;
        reads = reads;
        satisfied = all_satisfied J vs (read_values N reply vs reads) (ap every tests ∙ a.all_true);
        holds = a.holds;
      }

  pub accepted_exactly : AcceptedExactly J reply work buffer
  accepted_exactly = (
    λ is. satisfying_acceptable (accepted_satisfying J reply work buffer is),
    λ a. satisfying_accepted J reply work buffer (acceptable_satisfying a),
  )

  -- ---- an accepted reply

  module _ (is : checked J reply work ≡ accepted buffer) where
    abbrev satisfying : Satisfying J reply work buffer
    satisfying = accepted_satisfying J reply work buffer is

    -- 'Values .. satisfy the clauses when each clause has a true literal.'
    pub accepted_satisfies : satisfies J (take N buffer) ≡ true
    accepted_satisfies =
        let v = read_values N reply satisfying.said satisfying.reads in
        rw (satisfying.holds, take_at satisfying.said (drop N work) N v.long) satisfying.satisfied

    -- 'any values that satisfy its clauses read off as one such run with its turns'
    pub accepted_runs : (R : Run) × (read_off J.program (take N buffer) ≡ run R) × (is_run J R ≡ true)
    accepted_runs = (accuracy J satisfying.fits).reads_off (take N buffer) accepted_satisfies
