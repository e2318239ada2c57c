-- An accepted text gives a fit table: `accepted_fit`, at the end. So what is claimed of fit tables holds of it (crate claims).
use mathlib.Core.Path.{◌≡◌, subst}
use mathlib.Core.Bool.{true, false}
use mathlib.Core.List.{List, [], ◌∷◌}
use Rattle.std.specs.Prelude.{Option, Some, None, Result, Ok, Err}
use Prim.Native.Nat.{ℕ, ◌+◌, ◌*◌, ◌<◌}
use native.Mathlib.Omega.{arith}
use borrow.Author.Tests.{le-leb, leb-false, eqb-false}
use lib.Dec.{eqb, leb, ltb}
use lib.ListN.{drop, length}
use Rattle.lists.proofs.TestLaws.{pass}
use Rattle.job.specs.Limits.{max_lemmas, max_names}
use Rattle.job.specs.Table.{first_of}
use Rattle.job.specs.Fitness.{both_critical, program_fits, fit}
use Rattle.job.specs.declared.Job.{Job}
use Rattle.job.specs.declared.Program.{Program}
use Rattle.job.specs.declared.refusal.Fault.{Fault}
use Rattle.job.specs.declared.refusal.Refusal.{Refusal}
use Rattle.scan.specs.Lines.{Row, lines}
use Rattle.fields.specs.Fields.{whole_line}
use Rattle.program.specs.Program.{program_of}
use Rattle.program.specs.declared.Draft.{Draft}
use Rattle.program.specs.declared.ProgramPart.{ProgramPart}
use Rattle.program.proofs.DraftFits.{Drafted, reached_drafted}
use Rattle.program.proofs.ReachedLaws.{Reached}
use Rattle.parse.specs.Answers.{without_lemmas}
use Rattle.parse.specs.Labels.{link, at_lemmas}
use Rattle.parse.specs.Lemmas.{words, bare, negated, item_in, signed, lemma, whole, lemma_line, lemma_lines}
use Rattle.parse.specs.Lemmas.{named as named_in}
use Rattle.parse.specs.Reading.{from_lemmas, reading}
use Rattle.parse.specs.Answers.{then}
use Rattle.parse.proofs.AnswerLaws.{Holds, cond_holds, then_holds, holds_of}
use Rattle.parse.proofs.LabelLaws.{Steady, link_steady, started_holds}
use Rattle.parse.proofs.LemmaLaws.{OneOf, item_one}
use Rattle.parse.proofs.LinkFits.{Linking, link_linked, steady_is, linked_fits}
use Rattle.parse.proofs.LemmaFits.{Entered, Open, none_entered, entered_fits, opened, named, closed_entered, signed_fits}

-- ---- what holds between two lemma lines, and within one

abbrev items : Job → ℕ
items j = j.program.steps + j.program.variables

record Ready (j : Job) : Type 0 where
  program : program_fits j.program ≡ true
  lemmas : Entered (items j) j.lengths j.items j.lemmas

record Within (k : ℕ) (j : Job) : Type 0 where
  program : program_fits j.program ≡ true
  names : Open (items j) j.lengths j.items j.lemmas k

ready_fits : (j : Job) → Ready j → fit j ≡ true
unfolding fit
ready_fits j R =
    pass _ (
      R.program,
      (
        le-leb j.lemmas max_lemmas R.lemmas.few,
        (entered_fits (items j) j.lengths j.items j.lemmas R.lemmas, tt),
      ),
    )

-- ---- at `lemmas`

program_ready : (d : Draft) → Drafted d.program → ltb (first_of d.program 1) d.program.steps ≡ true
    → ltb (first_of d.program 2) d.program.steps ≡ true → (Q : Program) → link d d.program.steps ≡ Ok Q
    → both_critical d.program ≡ false → Ready (without_lemmas d Q)
unfolding without_lemmas
program_ready d D a b Q e c =
    let P = d.program in
    let linking : Linking P P.steps Q.to Q.other =
    holds_of (λ R. Linking P P.steps R.to R.other) (link d P.steps) Q (link_linked d D P.steps (omega arith)) e in
    record {
      program = subst (λ (R : Program). program_fits R ≡ true)
          (steady_is P Q (holds_of (λ R. Steady P R) (link d P.steps) Q (link_steady d P.steps) e))
          (linked_fits P Q.to Q.other D linking a b c);
      lemmas = none_entered (Q.steps + Q.variables);
    }

-- ---- lemma lines

lemma_ready : (j : Job) (n k : ℕ) (ws : List (List ℕ)) → Within k j → Holds Ready (lemma j n k ws)
unfolding lemma named_in
lemma_ready j n k [] W =
    cond_holds Ready (eqb k 0) _ _ (λ _. tt)
    (λ e. record {
      program = W.program;
      lemmas = closed_entered (items j) j.lengths j.items j.lemmas k W.names (eqb-false k 0 e);
    })
lemma_ready j n k (w ∷ ws) W =
    then_holds Ready (Within (k + 1)) _ _
    (cond_holds (Within (k + 1)) (leb max_names k) _ _ (λ _. tt)
    (λ l. name (leb-false max_names k l) (item_in j (bare w)) (item_one j (bare w))))
    (λ e h. lemma_ready e n (k + 1) ws h)
  where
    name : k < max_names → (x : Option ℕ) → OneOf (items j) x → Holds (Within (k + 1)) (named_in j n k (negated w) x)
    name l (Some i) h =
        let z : i ≡ 0 → ⊥ = λ e. omega (arith, h.0) in
        let fits = signed_fits (items j) i (negated w) z h.1 in
        record {
          program = W.program;
          names = named (items j) j.lengths j.items j.lemmas k W.names (signed (negated w) i) l fits;
        }
    name l None h = tt

whole_ready : (f : Result (Unit {0}) Fault) (n : ℕ) (r : Result Job Refusal) → Holds Ready r → Holds Ready (whole f n r)
unfolding whole
whole_ready (Ok _) n r h = h
whole_ready (Err fault) n r h = tt

line_ready : (j : Job) (l : Row) (n : ℕ) → Ready j → Holds Ready (lemma_line j l n)
unfolding lemma_line
line_ready j l n R =
    whole_ready (whole_line l) n _
    (cond_holds Ready (leb max_lemmas j.lemmas) _ _ (λ _. tt)
    (λ e. lemma_ready j n 0 (words l.bytes)
    (record {
      program = R.program;
      names = opened (items j) j.lengths j.items j.lemmas R.lemmas
          (leb-false max_lemmas j.lemmas e);
    })))

lines_ready : (j : Job) (n : ℕ) (ls : List Row) → Ready j → Holds Ready (lemma_lines j n ls)
unfolding lemma_lines
lines_ready j n [] R = R
lines_ready j n (l ∷ ls) R = then_holds Ready Ready _ _ (line_ready j l (n + 1) R) (λ e h. lines_ready e (n + 1) ls h)

-- ---- the whole

reading_ready : (text : List ℕ) → Holds Ready (reading text)
unfolding reading from_lemmas then
reading_ready text = go (program_of text) (reached_drafted text)
  where
    go : (r : Result ProgramPart Refusal) → Reached (λ d n at. Drafted d.program) r → Holds Ready (then r (from_lemmas text))
    go (Ok part) D =
        then_holds Ready Ready (at_lemmas part.draft part.line) _ (started_holds Ready part.draft part.line (program_ready part.draft D))
        (λ j h. lines_ready j part.line (lines (drop part.at text)) h)
    go (Err refusal) D = tt

pub accepted_fit : (text : List ℕ) (j : Job) → reading text ≡ Ok j → fit j ≡ true
accepted_fit text j e = ready_fits j (holds_of Ready (reading text) j (reading_ready text) e)

-- the table has a place for each name of each lemma
pub accepted_items : (text : List ℕ) (j : Job) → reading text ≡ Ok j → length j.items ≡ max_lemmas * max_names
accepted_items text j e = (holds_of Ready (reading text) j (reading_ready text) e).lemmas.items_size
