-- Demand 3 as a statement about reading off and run to values, byte by byte. It is proved of every fit table in proofs/Calls.
use Rattle.std.specs.Prelude.{◌≡◌, true, List, ◌++◌, ℕ, ◌≤◌, length, take}
use Rattle.job.specs.declared.Job.{Job}
use Rattle.job.specs.Answers.{gives}
use Rattle.job.specs.Meaning.{Run, is_run}
use Rattle.job.specs.Numbering.{total}
use Rattle.job.specs.Satisfaction.{satisfies}
use Rattle.job.specs.ReadOff.{run_bytes}
use Rattle.job.specs.RunToValues.{run_of}
use Rattle.readoff.specs.ReadingOff.{Outcome, run_length, reading_off}
use Rattle.values.specs.ToValues.{giving_values}

-- the stated part of a buffer: the bytes of a run, the values
abbrev pub run_in : Job → Outcome → List ℕ
run_in J o = take (run_length J.program) o.buffer

abbrev pub values_in : Job → Outcome → List ℕ
values_in J o = take (total J.program) o.buffer

-- buffers long enough for a run, and for values
pub record Room (J : Job) (for_run for_values : List ℕ) : Type 0 where
  pub run : run_length J.program ≤ length for_run
  pub values : total J.program ≤ length for_values

-- bytes that run to values takes, perhaps in a longer buffer: they are those of a run, its values satisfy the clauses, and the buffer
-- with these values reads off as the same bytes
pub record ThereAndBack (J : Job) (bs for_run for_values : List ℕ) : Type 0 where
  pub run : is_run J (run_of J.program bs) ≡ true
  pub given : (giving_values J bs for_values).answer ≡ gives tt
  pub satisfy : satisfies J (values_in J (giving_values J bs for_values)) ≡ true
  pub read : (reading_off J (giving_values J bs for_values).buffer for_run).answer ≡ gives tt
  pub back : run_in J (reading_off J (giving_values J bs for_values).buffer for_run) ≡ take (run_length J.program) bs

pub record AccurateCalls (J : Job) : Type 0 where
  -- 'Any values that satisfy its clauses read off as one such run with its turns': as bytes that go there and back
  pub values_read : (vs : List ℕ) → satisfies J (take (total J.program) vs) ≡ true
      → (for_run for_values : List ℕ) → Room J for_run for_values
      → ((reading_off J vs for_run).answer ≡ gives tt) × ThereAndBack J (reading_off J vs for_run).buffer for_run for_values
  -- bytes that are given values go there and back
  pub bytes_given : (bs : List ℕ) → (for_run for_values : List ℕ) → Room J for_run for_values
      → (giving_values J bs for_values).answer ≡ gives tt → ThereAndBack J bs for_run for_values
  -- 'Of any such run with its turns, 01's rule makes values that .. read off as that same run': its bytes, whatever stands behind them,
  -- go there and back, and give it
  pub run_bytes : (R : Run) → is_run J R ≡ true → (rest for_run for_values : List ℕ) → Room J for_run for_values
      → ThereAndBack J (run_bytes J.program R ++ rest) for_run for_values × (run_of J.program (run_bytes J.program R ++ rest) ≡ R)
