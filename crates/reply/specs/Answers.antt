-- What the answers of the code mean: number, place and values for each case.
use Rattle.std.specs.Prelude.{List, ◌++◌, Result, Ok, Err, ℕ, drop}
use Rattle.lists.specs.Rows.{tab, num}
use Rattle.lists.specs.Pieces.{cut}
use Rattle.job.specs.declared.refusal.Fault.{Fault}
use Rattle.job.specs.declared.refusal.Refusal.{Refusal}
use Rattle.job.specs.Faults.{number_of}
use Rattle.reader.specs.declared.Reader.{Reader}
use Rattle.reader.specs.Reader.{ahead}
use Rattle.reply.specs.declared.Progress.{Progress}
use Rattle.reply.specs.declared.Progress.TheVariants.{More, Closed}
use Rattle.reply.specs.Lines.{Opened, stopped, begun, Part, fault, more, closed, Told, halted, told}
use Rattle.reply.specs.Reply.{Heard, turned, whole, Read, refusal, values, truth}
use Rattle.reply.specs.Check.{Outcome, accepted, refused, blank, holding}

-- the answer while clauses are not looked at yet: a refusal of the reply, or its values in the buffer
abbrev pub settled : ℕ → List ℕ → Read → Outcome
settled N work (refusal c k) = refused c k (blank N work)
settled N work (values vs) = accepted (holding N work vs)

-- a number or a line of them, with the marks so far
abbrev pub part_of : Result Progress Fault → List ℕ → Part (List ℕ)
part_of (Err f) m = fault (number_of f) m
part_of (Ok More) m = more m
part_of (Ok Closed) m = closed m

-- the first x marks turned into values
abbrev pub cleaned : ℕ → List ℕ → List ℕ
cleaned x m = tab x (λ i. truth (num m i)) ++ drop x m

-- answers that have nothing to give but their refusal
module _ {T : Type 0} where
  -- the open call's answer with the buffer that it leaves
  abbrev pub outcome : Result T Refusal → List ℕ → Outcome
  outcome (Ok _) work = accepted work
  outcome (Err r) work = refused (number_of r.fault) r.place work

  -- where the reader stands then: the line that comes next and all that follows
  abbrev pub opened_of : Result T Refusal → Reader → Opened
  opened_of (Ok _) reader = begun reader.line (cut 10 (ahead reader))
  opened_of (Err r) reader = stopped (number_of r.fault) r.place

  abbrev pub told_of : Result T Refusal → Reader → List ℕ → Told (List ℕ)
  told_of (Ok _) reader m = told reader.line (cut 10 (ahead reader)) m
  told_of (Err r) reader m = halted (number_of r.fault) r.place m

  abbrev pub heard_of : Result T Refusal → List ℕ → Heard (List ℕ)
  heard_of (Ok _) m = whole m
  heard_of (Err r) m = turned (number_of r.fault) r.place m
