-- Demand 3 about what reading off and run to values do: `accurate_calls`, at the end. The statement is specs/Calls; the run and the
-- values are those of `accuracy` (crate job), the bytes those of RunBytes.
use mathlib.Core.Path.{◌≡◌, refl, sym, ap, ◌∙◌}
use mathlib.Core.Bool.{true}
use mathlib.Core.List.{List, ◌++◌}
use Prim.Native.Nat.{ℕ, suc, ◌+◌, ◌≤◌, ◌<◌}
use native.Mathlib.Omega.{arith}
use native.Mathlib.Decide.{dec_lt}
use borrow.Author.Tests.{le-ltb, eqb-true}
use lib.ListN.{length, take, drop, length-append, length-take}
use lib.Seq.{take_at, length-take-le}
use Rattle.lists.specs.Writing.{write}
use Rattle.lists.proofs.TestLaws.{passed}
use Rattle.job.specs.declared.Job.{Job}
use Rattle.job.specs.Answers.{gives}
use Rattle.job.specs.declared.Program.{Program}
use Rattle.job.specs.Table.{r}
use Rattle.job.specs.Meaning.{Run, is_run}
use Rattle.job.specs.Numbering.{total}
use Rattle.job.specs.Fitness.{fit}
use Rattle.job.specs.Satisfaction.{are_values, satisfies}
use Rattle.job.specs.ReadOff.{run, read_off, run_bytes}
use Rattle.job.specs.RunToValues.{run_of, values_of, run_fault}
use Rattle.job.proofs.Accuracy.{accuracy}
use Rattle.job.proofs.MeaningLaws.{run_is}
use Rattle.job.proofs.ValueLaws.{length_values}
use Rattle.readoff.specs.ReadingOff.{Outcome, refusal, written, run_length, reading_fit, reading_off}
use Rattle.readoff.proofs.AnswerLaws.{fit_read}
use Rattle.readoff.proofs.FrontLaws.{reads_front}
use Rattle.values.specs.ToValues.{giving_values}
use Rattle.claims.specs.Calls.{run_in, values_in, Room, ThereAndBack, AccurateCalls}
use Rattle.values.proofs.GivingLaws.{fault_most, short_run, breaks, gives_values, fit_given}
use Rattle.claims.proofs.RunBytes.{length_bytes, run_back, no_fault, fault_free, bytes_back}

-- what is written at 0 is the stated part
written_part : (part buffer : List ℕ) (k : ℕ) → length part ≡ k → take k (write buffer 0 part) ≡ part
written_part part buffer k e = take_at part (drop (0 + length part) buffer) k e

pub satisfying_length : (J : Job) (vs : List ℕ) → satisfies J vs ≡ true → length vs ≡ total J.program
unfolding satisfies are_values
satisfying_length J vs h =
    let (a, _) = passed _ h in
    let (x, _) = passed _ a in
    eqb-true (length vs) (total J.program) x

module _ (J : Job) (h : fit J ≡ true) where
  abbrev P : Program
  P = J.program

  -- ---- one call at a time

  -- values that read off as a run are written as its bytes
  reads_as : (vs : List ℕ) (R : Run) (buffer : List ℕ) → length vs ≡ total P → read_off P vs ≡ run R → run_length P ≤ length buffer
      → reading_off J vs buffer ≡ written (run_bytes P R) buffer
  unfolding reading_fit
  reads_as vs R buffer long e room =
      sym (fit_read J vs buffer h)
      ∙ rw (le-ltb (length vs) (total P) (omega arith), le-ltb (length buffer) (run_length P) room, e)

  -- bytes without a fault are given values
  gives_as : (bs buffer : List ℕ) → run_fault J bs ≡ suc (r P) → run_length P ≤ length bs → total P ≤ length buffer
      → giving_values J bs buffer ≡ written (values_of P (run_of P bs)) buffer
  gives_as bs buffer e room place = sym (gives_values J bs buffer place room (suc (r P)) (sym e) (omega arith) ∙ fit_given J bs buffer h)

  -- ---- there and back

  module _ (bs for_run for_values : List ℕ) (room : Room J for_run for_values)
      (long : run_length J.program ≤ length bs) (whole : run_fault J bs ≡ suc (r J.program)) where
    R : Run
    R = run_of P bs

    is_run_lem : is_run J R ≡ true
    unfolding R
    is_run_lem = fault_free J bs whole

    outcome : giving_values J bs for_values ≡ written (values_of P R) for_values
    unfolding R
    outcome = gives_as bs for_values whole long room.values

    the_values : values_in J (giving_values J bs for_values) ≡ values_of P R
    the_values = ap (values_in J) outcome ∙ written_part (values_of P R) for_values (total P) (length_values P R)

    -- the buffer that holds the values is as long as it was
    values_room : total P ≤ length (giving_values J bs for_values).buffer
    values_room =
        rw outcome (omega (arith, length-append (values_of P R) (drop (0 + length (values_of P R)) for_values), length_values P R))

    the_reading : reading_off J (giving_values J bs for_values).buffer for_run ≡ written (run_bytes P R) for_run
    the_reading =
        let (_, e) = (accuracy J h).of_a_run R is_run_lem in
        sym (reads_front J (giving_values J bs for_values).buffer for_run values_room)
        ∙ ap (λ vs. reading_off J vs for_run) the_values
        ∙ reads_as (values_of P R) R for_run (length_values P R) e room.run

    bytes_again : run_bytes P R ≡ take (run_length P) bs
    unfolding R
    bytes_again = bytes_back J bs whole long

    there_and_back : ThereAndBack J bs for_run for_values
    unfolding R
    there_and_back =
        let size = ap length bytes_again ∙ length-take-le (run_length P) bs long in
        record {
          run = is_run_lem;
          given = ap (λ o. o.answer) outcome;
          satisfy = ap (satisfies J) the_values ∙ ((accuracy J h).of_a_run R is_run_lem).0;
          read = ap (λ o. o.answer) the_reading;
          back = ap (run_in J) the_reading ∙ written_part (run_bytes P R) for_run (run_length P) size ∙ bytes_again;
        }

  -- ---- the three claims

  of_a_run : (R : Run) → is_run J R ≡ true → (rest for_run for_values : List ℕ) → Room J for_run for_values
      → ThereAndBack J (run_bytes P R ++ rest) for_run for_values × (run_of P (run_bytes P R ++ rest) ≡ R)
  of_a_run R is rest for_run for_values room =
      let q = run_is J R is in
      let long : run_length P ≤ length (run_bytes P R ++ rest) = omega (arith, length-append (run_bytes P R) rest, length_bytes J R q) in
      (there_and_back (run_bytes P R ++ rest) for_run for_values room long (no_fault J R q rest is), run_back J R q rest)

  of_values : (vs : List ℕ) → satisfies J (take (total P) vs) ≡ true → (for_run for_values : List ℕ) → Room J for_run for_values
      → ((reading_off J vs for_run).answer ≡ gives tt) × ThereAndBack J (reading_off J vs for_run).buffer for_run for_values
  of_values vs s for_run for_values room =
      let (R, e, is) = (accuracy J h).reads_off (take (total P) vs) s in
      let size = satisfying_length J (take (total P) vs) s in
      let long : total P ≤ length vs = omega (arith, length-take (total P) vs) in
      let o = sym (reads_front J vs for_run long) ∙ reads_as (take (total P) vs) R for_run size e room.run in
      (ap (λ o. o.answer) o, rw o (of_a_run R is (drop (0 + length (run_bytes P R)) for_run) for_run for_values room).0)

  -- an answer that is no refusal says that the bytes are as many as a run's, and that no rule is broken
  unbroken : (bs buffer : List ℕ) → total P ≤ length buffer → (giving_values J bs buffer).answer ≡ gives tt
      → (run_length P ≤ length bs) × (run_fault J bs ≡ suc (r P))
  unbroken bs buffer place w = enough (dec_lt (length bs) (run_length P))
    where
      refused : {x : Outcome} (number k : ℕ) → refusal number k buffer ≡ x → x.answer ≡ gives tt → ⊥
      refused {x} number k e a = let z : ◌≡◌ {A = ℕ} 0 1 = cc (ap (λ o. o.answer) e) in absurd (omega arith)

      go : run_length P ≤ length bs → Dec (run_fault J bs < suc (r P)) → run_fault J bs ≡ suc (r P)
      go long (yes l) =
          absurd (refused 69 (run_fault J bs) (breaks J bs buffer place long (run_fault J bs) refl l ∙ fit_given J bs buffer h) w)
      go long (no l) = let k = fault_most J bs in omega arith

      enough : Dec (length bs < run_length P) → (run_length P ≤ length bs) × (run_fault J bs ≡ suc (r P))
      enough (yes l) = absurd (refused 51 0 (short_run J bs buffer l ∙ fit_given J bs buffer h) w)
      enough (no l) = let long : run_length P ≤ length bs = omega arith in (long, go long (dec_lt (run_fault J bs) (suc (r P))))

  of_bytes : (bs : List ℕ) → (for_run for_values : List ℕ) → Room J for_run for_values
      → (giving_values J bs for_values).answer ≡ gives tt → ThereAndBack J bs for_run for_values
  of_bytes bs for_run for_values room w =
      let (long, whole) = unbroken bs for_values room.values w in
      there_and_back bs for_run for_values room long whole

pub accurate_calls : (J : Job) → fit J ≡ true → AccurateCalls J
accurate_calls J h = record { values_read = of_values J h; bytes_given = of_bytes J h; run_bytes = of_a_run J h }
