-- Demand 3 from a reply to a run and back: `accurate_replies`, at the end. A reply is accepted exactly when its values satisfy the
-- clauses (crate reply), and of such values Calls speaks.
use mathlib.Core.Path.{◌≡◌, refl, sym, ap, ◌∙◌}
use mathlib.Core.Bool.{true}
use mathlib.Core.List.{List, ◌++◌}
use Prim.Native.Nat.{ℕ, ◌≤◌}
use native.Mathlib.Omega.{arith}
use lib.ListN.{length, take, drop, length-append, length-take}
use lib.Seq.{take_at}
use Rattle.lists.proofs.TestLaws.{passed}
use Rattle.job.specs.declared.Job.{Job}
use Rattle.job.specs.Answers.{gives}
use Rattle.job.specs.Meaning.{Run, is_run}
use Rattle.job.specs.Numbering.{total}
use Rattle.job.specs.Fitness.{fit}
use Rattle.job.specs.Satisfaction.{are_values, satisfies}
use Rattle.job.specs.ReadOff.{run_bytes}
use Rattle.job.proofs.MeaningLaws.{run_is}
use Rattle.reply.specs.Reply.{values, values_read}
use Rattle.reply.specs.Check.{accepted, max_reply, holding, checked}
use Rattle.reply.proofs.ReplyLaws.{read_values}
use Rattle.reply.proofs.Satisfying.{Satisfying, satisfying_accepted}
use Rattle.reply.proofs.Accepted.{accepted_satisfies}
use Rattle.reply.specs.PlainReply.{plain_reply}
use Rattle.reply.proofs.PlainReply.{plain_replies}
use Rattle.readoff.specs.ReadingOff.{reading_off}
use Rattle.readoff.proofs.FrontLaws.{reads_front}
use Rattle.values.specs.ToValues.{giving_values}
use Rattle.claims.specs.Calls.{run_in, values_in, Room, ThereAndBack}
use Rattle.claims.specs.Replies.{AccurateReplies}
use Rattle.claims.proofs.Calls.{satisfying_length, accurate_calls}
use Rattle.claims.proofs.RunBytes.{length_bytes}

are_values_lem : (J : Job) (vs : List ℕ) → satisfies J vs ≡ true → are_values J vs ≡ true
unfolding satisfies
are_values_lem J vs h = (passed _ h).0

-- a buffer that holds values has them in front, and is long enough
module _ (J : Job) (work vs : List ℕ) (long : length vs ≡ total J.program) where
  front : take (total J.program) (holding (total J.program) work vs) ≡ vs
  front = take_at vs (drop (total J.program) work) (total J.program) long

  room : total J.program ≤ length (holding (total J.program) work vs)
  room = omega (arith, length-append vs (drop (total J.program) work))

module _ (J : Job) (h : fit J ≡ true) where
  abbrev N : ℕ
  N = total J.program

  accepted_read : (reply work buffer : List ℕ) → checked J reply work ≡ accepted buffer
      → (for_run for_values : List ℕ) → Room J for_run for_values
      → ((reading_off J buffer for_run).answer ≡ gives tt) × ThereAndBack J (reading_off J buffer for_run).buffer for_run for_values
  accepted_read reply work buffer is = (accurate_calls J h).values_read buffer (accepted_satisfies J reply work buffer is)

  run_accepted : (R : Run) → is_run J R ≡ true → (rest for_run for_values : List ℕ) → Room J for_run for_values
      → (vs : List ℕ) → vs ≡ values_in J (giving_values J (run_bytes J.program R ++ rest) for_values)
      → (reply work : List ℕ) → values_read N reply ≡ values vs → N ≤ length work → length reply ≤ max_reply
      → (checked J reply work ≡ accepted (holding N work vs))
      × (run_in J (reading_off J (holding N work vs) for_run) ≡ run_bytes J.program R)
  run_accepted R is rest for_run for_values space vs e reply work reads wide short =
      let (back, _) = (accurate_calls J h).run_bytes R is rest for_run for_values space in
      let long = (read_values N reply vs reads).long in
      let satisfying : Satisfying J reply work (holding N work vs) = record {
        fits = h;
        room = wide;
        short = short;
        said = vs;
        reads = reads;
        satisfied = rw e back.satisfy;
        holds = refl;
      } in
      let given = (giving_values J (run_bytes J.program R ++ rest) for_values).buffer in
      let whole = reads_front J (holding N work vs) for_run (room J work vs long) in
      let part = ap (λ us. reading_off J us for_run) (front J work vs long ∙ e) in
      let size = length_bytes J R (run_is J R is) in
      let given_long : N ≤ length given = omega (arith, length-take N given, satisfying_length J (take N given) back.satisfy) in
      let same = ap (run_in J) (sym whole ∙ part ∙ reads_front J given for_run given_long) in
      (satisfying_accepted J reply work (holding N work vs) satisfying, same ∙ back.back ∙ take_at (run_bytes J.program R) rest _ size)

  run_replied : (R : Run) → is_run J R ≡ true → (rest for_run for_values : List ℕ) → Room J for_run for_values
      → (vs : List ℕ) → vs ≡ values_in J (giving_values J (run_bytes J.program R ++ rest) for_values)
      → (work : List ℕ) → N ≤ length work
      → (checked J (plain_reply vs) work ≡ accepted (holding N work vs))
      × (run_in J (reading_off J (holding N work vs) for_run) ≡ run_bytes J.program R)
  run_replied R is rest for_run for_values space vs e work wide =
      let (back, _) = (accurate_calls J h).run_bytes R is rest for_run for_values space in
      let are = are_values_lem J vs (rw e back.satisfy) in
      let plain = plain_replies J h in
      run_accepted R is rest for_run for_values space vs e (plain_reply vs) work (plain.reads vs are) wide (plain.short vs are)

pub accurate_replies : (J : Job) → fit J ≡ true → AccurateReplies J
accurate_replies J h = record { accepted_read = accepted_read J h; run_accepted = run_accepted J h; run_replied = run_replied J h }
