-- Laws of reading: what the checks at `lemmas` and the lemma lines begin with; what the call promises is the reading itself.
use mathlib.Core.Path.{◌≡◌, ap}
use mathlib.Core.List.{List}
use Prim.Native.Nat.{ℕ, ◌≤◌}
use native.Mathlib.Omega.{arith}
use Rattle.std.specs.Prelude.{Result, Ok, Err}
use lib.ListN.{length}
use Rattle.job.specs.Answers.{answer_of}
use Rattle.job.specs.Faults.{number_of}
use Rattle.job.specs.Limits.{max_steps, max_text}
use Rattle.job.specs.declared.Job.{Job}
use Rattle.job.specs.declared.refusal.Refusal.{Refusal}
use Rattle.program.specs.Program.{program_of}
use Rattle.program.specs.declared.Draft.{Draft}
use Rattle.program.specs.declared.ProgramPart.{ProgramPart}
use Rattle.program.proofs.DraftLaws.{Within}
use Rattle.program.proofs.ReachedLaws.{reached_size, reached_within, reached_at}
use Rattle.parse.specs.Answers.{forgotten, table_of, without_lemmas}
use Rattle.parse.specs.Labels.{link, at_lemmas}
use Rattle.parse.specs.Reading.{reading, read_job}
use Rattle.parse.proofs.AnswerLaws.{holds_of}
use Rattle.parse.proofs.FaultLaws.{same_fault}
use Rattle.parse.proofs.LabelLaws.{Steady, link_steady, started_holds}

-- the draft and the text are in the limits
pub limits : (text : List ℕ) (part : ProgramPart) → program_of text ≡ Ok part
    → (length text ≤ max_text) × (part.line ≤ part.at) × Within part.draft
limits text part e =
    let w = reached_at (λ d n at. Within d × (n ≤ at)) (program_of text) part (reached_within text) e in
    (reached_at (λ d n at. length text ≤ max_text) (program_of text) part (reached_size text) e, w.1, w.0)

-- the counts are still in the limits
pub counts_kept : (d : Draft) (n : ℕ) (j : Job) → Within d → at_lemmas d n ≡ Ok j
    → (j.program.steps ≤ max_steps) × (j.program.variables ≤ max_steps)
unfolding without_lemmas
counts_kept d n j h e =
    let I : Job → Type 0 = λ (j : Job). (j.program.steps ≤ max_steps) × (j.program.variables ≤ max_steps) in
    holds_of I (at_lemmas d n) j
    (started_holds I d n λ a b Q l c.
    let s = holds_of (λ R. Steady d.program R) (link d d.program.steps) Q (link_steady d d.program.steps) l in
    (omega (arith, s.1, h), omega (arith, s.2, h)))
    e

-- ---- the call's promise and the reading

-- one answer and one table are those of one reading
same_reading : (r q : Result Job Refusal) → forgotten (answer_of r) ≡ forgotten (answer_of q) → table_of r ≡ table_of q → r ≡ q
same_reading (Ok j) (Ok k) e t = ap Ok t
same_reading (Ok j) (Err y) e t = cc
same_reading (Err x) (Ok k) e t = cc
same_reading (Err x) (Err y) e t =
    let number : number_of x.fault ≡ number_of y.fault = cc in
    let place : x.place ≡ y.place = cc in
    let fault = same_fault x.fault y.fault number in
    λ i. Err (record { fault = fault i; place = place i })

module _ (text : List ℕ) (r : Result Job Refusal) where
  abbrev pub Promised : Type 0
  Promised = (forgotten (answer_of r) ≡ (read_job text).answer) × (table_of r ≡ (read_job text).table)

  pub promised : r ≡ reading text → Promised
  unfolding read_job
  promised e = (ap (λ (x : Result Job Refusal). forgotten (answer_of x)) e, ap table_of e)

  pub is_reading : Promised → r ≡ reading text
  unfolding read_job
  is_reading (answer, table) = same_reading r (reading text) answer table
