-- Laws of a whole reply: one for each way out of the code that hears it.
use Rattle.std.proofs.Common.{◌≡◌, ap, ◌∙◌, Option, None, Some, Result, Ok, Err, ℕ, List}
use Rattle.lists.specs.Pieces.{cut}
use Rattle.job.specs.declared.refusal.Refusal.{Refusal}
use Rattle.job.specs.Faults.{number_of}
use Rattle.reader.specs.declared.Reader.{Reader}
use Rattle.reader.specs.Reader.{ahead}
use Rattle.reply.specs.Said.{marks}
use Rattle.reply.specs.Lines.{Opened, opening, value_lines_in, closing}
use Rattle.reply.specs.Reply.{Heard, turned, whole, ended, spoken, started, heard_in}
use Rattle.reply.specs.Answers.{opened_of, told_of}

-- o and r are the answer to the opening and the reader then; the reader began with the whole text
module _ (N : ℕ) (m s : List ℕ) (first : Reader) (line : first.line ≡ 1) (all : ahead first ≡ s) {T : Type 0} (o : Result T Refusal)
    (r : Reader) (answer : opened_of o r ≡ opening first.line (cut 10 (ahead first))) where
  opens : opened_of o r ≡ opening 1 (cut 10 s)
  opens = rw (line, all) at answer

  abbrev from : Opened → Heard (List ℕ)
  from start = started m start (λ k ps. spoken (value_lines_in marks N k m ps))

  heard_from : from (opened_of o r) ≡ heard_in marks N m s
  unfolding heard_in
  heard_from = ap from opens

  pub not_begun : (x : Refusal) → o ≡ Err x → turned (number_of x.fault) x.place m ≡ heard_in marks N m s
  not_begun x e = rw e at heard_from

  module _ (v : T) (e : o ≡ Ok v) {U : Type 0} (t : Result U Refusal) (r' : Reader) (m' : List ℕ)
      (tells : told_of t r' m' ≡ value_lines_in marks N r.line m (cut 10 (ahead r))) where
    spoken_from : spoken (told_of t r' m') ≡ heard_in marks N m s
    spoken_from = ap spoken tells ∙ rw e at heard_from

    pub not_told : (x : Refusal) → t ≡ Err x → turned (number_of x.fault) x.place m' ≡ heard_in marks N m s
    not_told x f = rw f at spoken_from

    module _ (u : U) (f : t ≡ Ok u) (z : Option ℕ) (closes : z ≡ closing r'.line (cut 10 (ahead r'))) where
      ended_from : ended m' z ≡ heard_in marks N m s
      ended_from = ap (ended m') closes ∙ rw f at spoken_from

      pub all_heard : z ≡ None → whole m' ≡ heard_in marks N m s
      all_heard h = rw h at ended_from

      pub not_closed : (k : ℕ) → z ≡ Some k → turned 61 k m' ≡ heard_in marks N m s
      not_closed k h = rw h at ended_from
