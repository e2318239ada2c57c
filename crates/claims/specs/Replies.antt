-- Demand 3 from a solver's reply to a run and back, as a statement about the three calls. It is proved of every fit table in
-- proofs/Replies.
use Rattle.std.specs.Prelude.{◌≡◌, true, List, ◌++◌, ℕ, ◌≤◌, length}
use Rattle.job.specs.declared.Job.{Job}
use Rattle.job.specs.Answers.{gives}
use Rattle.job.specs.Meaning.{Run, is_run}
use Rattle.job.specs.Numbering.{total}
use Rattle.job.specs.ReadOff.{run_bytes}
use Rattle.reply.specs.Reply.{values, values_read}
use Rattle.reply.specs.PlainReply.{plain_reply}
use Rattle.reply.specs.Check.{accepted, max_reply, holding, checked}
use Rattle.readoff.specs.ReadingOff.{reading_off}
use Rattle.values.specs.ToValues.{giving_values}
use Rattle.claims.specs.Calls.{run_in, values_in, Room, ThereAndBack}

pub record AccurateReplies (J : Job) : Type 0 where
  -- an accepted reply leaves a buffer that reads off, and as bytes that go there and back
  pub accepted_read : (reply work buffer : List ℕ) → checked J reply work ≡ accepted buffer
      → (for_run for_values : List ℕ) → Room J for_run for_values
      → ((reading_off J buffer for_run).answer ≡ gives tt) × ThereAndBack J (reading_off J buffer for_run).buffer for_run for_values
  -- a reply that says the values which run to values makes of a run is accepted, and what it leaves reads off as that run's bytes
  pub run_accepted : (R : Run) → is_run J R ≡ true → (rest for_run for_values : List ℕ) → Room J for_run for_values
      → (vs : List ℕ) → vs ≡ values_in J (giving_values J (run_bytes J.program R ++ rest) for_values)
      → (reply work : List ℕ) → values_read (total J.program) reply ≡ values vs
      → total J.program ≤ length work → length reply ≤ max_reply
      → (checked J reply work ≡ accepted (holding (total J.program) work vs))
      × (run_in J (reading_off J (holding (total J.program) work vs) for_run) ≡ run_bytes J.program R)
  -- and there is such a reply: the plain one
  pub run_replied : (R : Run) → is_run J R ≡ true → (rest for_run for_values : List ℕ) → Room J for_run for_values
      → (vs : List ℕ) → vs ≡ values_in J (giving_values J (run_bytes J.program R ++ rest) for_values)
      → (work : List ℕ) → total J.program ≤ length work
      → (checked J (plain_reply vs) work ≡ accepted (holding (total J.program) work vs))
      × (run_in J (reading_off J (holding (total J.program) work vs) for_run) ≡ run_bytes J.program R)
