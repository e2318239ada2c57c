-- 51, 67 or the run's bytes, in that order.
use Rattle.std.proofs.Common.{◌≡◌, refl, sym, ap, ◌∙◌, ◌≤◌, List, ℕ, length, arith}
use Rattle.job.specs.declared.refusal.Refusal.{Refusal}
use Rattle.job.specs.Answers.{refuses}
use Rattle.job.specs.Faults.{number_of}
use Rattle.fit.specs.declared.FitJob.{FitJob}
use Rattle.readoff.specs.ReadingOff.{run_length, reading_fit}
use Rattle.readoff.proofs.ReadingLaws.{all_read}
use Rattle.readoff.proofs.AnswerLaws.{outcome, short_values, short_run, misread, reads}
use Rattle.readoff.proofs.read_fit.Goals as goal
use Rattle.readoff.proofs.read_fit.Goals.{After-run_length}

-- what stands in the values is what was handed in
same_fit : (c : After-run_length) → c.in-Some.values.fit.now ≡ c.args.fit.now
same_fit c = c.in-Some.ensures.some.0

same_bytes : (c : After-run_length) → c.in-Some.values.bytes.now ≡ c.args.values.now
same_bytes c = c.in-Some.ensures.some.1

same_reading : (c : After-run_length) → (buffer : List ℕ)
    → reading_fit c.in-Some.values.fit.now.job.program c.in-Some.values.bytes.now buffer
    ≡ reading_fit c.args.fit.now.job.program c.args.values.now buffer
same_reading c buffer = rw (same_fit c, same_bytes c)

same_length : (c : After-run_length) → run_length c.in-Some.values.fit.now.job.program ≡ c.run_length.result
same_length c = ap (λ (f : FitJob). run_length f.job.program) (same_fit c) ∙ sym c.run_length.ensures

pub returns-in_default : goal.returns-in_default
returns-in_default c =
    let a = c.args in
    let o = outcome _ _ (short_values a.fit.now.job.program a.values.now a.run.now (c.in_default.ensures.none refl)) in
    (ap (λ (r : Refusal). refuses (number_of r.fault) r.place) c.into.ensures ∙ o.0, o.1)

pub returns-then-run-run_length : goal.returns-then-run-run_length
returns-then-run-run_length c =
    let a = c.args in
    let o = outcome _ _ (short_run a.fit.now.job.program a.values.now a.run.now
    (omega (arith, c.run_length.ensures, c.if-run-run_length.true))) in
    (ap (λ (r : Refusal). refuses (number_of r.fault) r.place) c.into-then-run-run_length.ensures ∙ o.0, o.1)

pub returns-in-Some-fault : goal.returns-in-Some-fault
returns-in-Some-fault c =
    let d = (goal.at.returns-in-Some-fault c).After-run_length in
    let v = c.in-Some.values in
    let p = v.fit.now.job.program in
    let f = c.in-Some-fault.ensures.some in
    let room : run_length p ≤ length c.args.run.now = omega (arith, same_length d, c.if-run-run_length.false) in
    let o = outcome _ _ (misread p v.bytes.now c.args.run.now v.enough room _ f.1 f.0 ∙ same_reading d c.args.run.now) in
    (ap (λ (r : Refusal). refuses (number_of r.fault) r.place) c.at.ensures ∙ o.0, o.1)

pub write_run-requires-clause-reads : goal.write_run-requires-clause-reads
write_run-requires-clause-reads c =
    let v = c.in-Some.values in
    all_read v.fit.now.job.program v.bytes.now _ refl (c.in_default-fault.ensures.none refl)

pub returns : goal.returns
returns c =
    let d = (goal.at.returns c).After-run_length in
    let v = c.in-Some.values in
    let p = v.fit.now.job.program in
    let room : run_length p ≤ length c.args.run.now = omega (arith, same_length d, c.if-run-run_length.false) in
    let none = c.in_default-fault.ensures.none refl in
    let o = outcome _ _ (reads p v.bytes.now c.args.run.now v.enough room _ refl none ∙ same_reading d c.args.run.now) in
    (o.0, c.write_run.ensures ∙ o.1)
