-- What acceptance tells of a text: its line 1, its program and its lemma lines are sound, and give its table (`told`, at the end).
use mathlib.Core.Path.{◌≡◌, refl, sym, ap, ◌∙◌}
use mathlib.Core.Bool.{true, false≢true}
use mathlib.Core.List.{List, [], ◌∷◌, ◌++◌}
use Prim.Native.Nat.{ℕ, ◌+◌, ◌≤◌}
use native.Mathlib.Omega.{arith}
use Rattle.std.specs.Prelude.{Result, Ok, Err}
use Rattle.std.specs.Result.{IsOk}
use lib.ListN.{length, drop}
use Rattle.lists.specs.Tests.{within}
use Rattle.lists.proofs.TestLaws.{is_within}
use Rattle.order.proofs.WeightLaws.{weight}
use Rattle.job.specs.Limits.{max_text, max_lemmas}
use Rattle.job.specs.declared.Job.{Job}
use Rattle.job.specs.declared.refusal.Fault.{Fault}
use Rattle.job.specs.declared.refusal.Refusal.{Refusal}
use Rattle.scan.specs.Lines.{Row, lines}
use Rattle.fields.specs.Fields.{whole_line}
use Rattle.lines.specs.FirstLine.{first_line, code_of}
use Rattle.lines.specs.declared.FirstLine.{FirstLine}
use Rattle.program.specs.Draft.{blank}
use Rattle.program.specs.Program.{reached, program, opened, whole, from_line1, program_of}
use Rattle.program.specs.declared.Draft.{Draft}
use Rattle.program.specs.declared.ProgramPart.{ProgramPart}
use Rattle.parse.specs.Answers.{table_of, without_lemmas, then}
use Rattle.parse.specs.Labels.{at_lemmas}
use Rattle.parse.specs.Lemmas.{lemma_lines}
use Rattle.parse.specs.Reading.{from_lemmas, reading}
use Rattle.parse.proofs.AnswerLaws.{goes_on}
use Rattle.form.specs.OneForm.{IsJob, job_of}
use Rattle.form.proofs.ResultLaws.{not_ok, taken, then_told}
use Rattle.form.proofs.WrittenLaws.{long, lines_next}
use Rattle.form.proofs.LemmaLineLaws.{AllSound, with_lines, lines_are, lines_told}
use Rattle.form.proofs.LineNumberLaws.{Passes, at_start, passes_told, passes_are}
use Rattle.form.proofs.ProgramAgainLaws.{rows_long, Reads, reads_told}
use Rattle.form.proofs.Line1Laws.{line1}

-- ---- a text by its lines

-- behind some lines the text goes on with the others
lines_behind : (text : List ℕ) (at : ℕ) (front rest : List Row) → lines (drop at text) ≡ front ++ rest
    → lines (drop (at + rows_long front) text) ≡ rest
unfolding weight
lines_behind text at [] rest e = let q : at + 0 ≡ at = omega arith in ap (λ k. lines (drop k text)) q ∙ e
lines_behind text at (l ∷ front) rest e =
    let q : at + (long l.bytes + rows_long front) ≡ at + long l.bytes + rows_long front = omega arith in
    ap (λ k. lines (drop k text)) q ∙ lines_behind text (at + long l.bytes) front rest (lines_next text at l (front ++ rest) e)

-- the draft that line 1 says
abbrev pub opening : FirstLine → Draft
opening first = blank first.bound (code_of first.word)

-- a text whose program comes to `lemmas`
module _ (text : List ℕ) (l : Row) (front rest : List Row) (first : FirstLine) (k : ℕ) (d : Draft)
    (size : within 1 max_text (length text) ≡ true) (split : lines text ≡ l ∷ (front ++ rest)) (w : whole_line l ≡ Ok tt)
    (b : first_line l.bytes line1 ≡ Ok first)
    (e : program (opening first) (long l.bytes) 1 (front ++ rest) ≡ Ok (reached k (long l.bytes + rows_long front) d)) where
  program_is : program_of text ≡ Ok (reached k (long l.bytes + rows_long front) d)
  unfolding program_of from_line1 whole opened
  program_is = rw size (ap from_line1 split ∙ rw (w, b) e)

  pub reading_is : reading text ≡ then (at_lemmas d k) λ j. lemma_lines j k rest
  unfolding reading from_lemmas
  reading_is =
      let z : 0 + long l.bytes ≡ long l.bytes = omega arith in
      let behind : lines (drop (long l.bytes) text) ≡ front ++ rest = ap (λ n. lines (drop n text)) (sym z)
      ∙ lines_next text 0 l (front ++ rest) split in
      goes_on _ (from_lemmas text) _ program_is
      ∙ ap (λ ls. then (at_lemmas d k) λ j. lemma_lines j k ls) (lines_behind text (long l.bytes) front rest behind)

-- ---- what acceptance tells

pub record Told (text : List ℕ) : Type 0 where
  -- line 1, and the lines behind it
  pub first : Row
  pub others : List Row
  pub lines_are : lines text ≡ first ∷ others
  pub whole_first : whole_line first ≡ Ok tt
  pub says : FirstLine
  pub line1_is : first_line first.bytes line1 ≡ Ok says
  pub size : length text ≤ max_text
  -- the program, and the lemma lines
  pub reads : Reads (opening says) 1 others
  pub passes : Passes reads.start
  pub few : length reads.rest ≤ max_lemmas
  pub sound : AllSound (at_start reads.start passes) reads.rest
  pub table : reading text ≡ Ok (with_lines (at_start reads.start passes) reads.rest)

pub no_lemmas : (d : Draft) (p : Passes d) → (at_start d p).lemmas ≡ 0
unfolding without_lemmas
no_lemmas d p = refl

module _ (text : List ℕ) (j : Job) (h : reading text ≡ Ok j) (size : within 1 max_text (length text) ≡ true) (l : Row) (ls : List Row)
    (split : lines text ≡ l ∷ ls) (w : whole_line l ≡ Ok tt) (first : FirstLine) (b : first_line l.bytes line1 ≡ Ok first)
    (R : Reads (opening first) 1 ls) where
  told_by : Told text
  told_by =
      let is : reading text ≡ then (at_lemmas R.start R.line) λ j. lemma_lines j R.line R.rest =
      reading_is text l R.front R.rest first R.line R.start size (split ∙ ap (λ x. l ∷ x) R.parts) w b
      (ap (program (opening first) (long l.bytes) 1) (sym R.parts) ∙ R.reads (long l.bytes)) in
      let (i, a, _) = then_told (at_lemmas R.start R.line) _ j (sym is ∙ h) in
      let passes = passes_told R.start R.line i a in
      let s = at_start R.start passes in
      let from : reading text ≡ lemma_lines s R.line R.rest = is ∙ goes_on _ _ _ (passes_are R.start R.line passes) in
      let none = no_lemmas R.start passes in
      let (few, sound) = lines_told s j R.line R.rest (omega arith) (sym from ∙ h) in
      record {
        first = l;
        others = ls;
        lines_are = split;
        whole_first = w;
        says = first;
        line1_is = b;
        size = (is_within 1 max_text (length text) size).1;
        reads = R;
        passes = passes;
        few = omega arith;
        sound = sound;
        table = from ∙ lines_are s R.line R.rest (omega arith) sound;
      }

module _ (text : List ℕ) (j : Job) (h : reading text ≡ Ok j) (size : within 1 max_text (length text) ≡ true) (p : ProgramPart) where
  told_rows : (rs : List Row) → lines text ≡ rs → from_line1 rs ≡ Ok p → Told text
  unfolding from_line1 whole opened
  told_rows [] split g = not_ok g
  told_rows (l ∷ ls) split g = line (whole_line l) refl g
    where
      -- what follows line 1
      behind : FirstLine → Result ProgramPart Refusal
      behind first = program (opening first) (long l.bytes) 1 ls

      begun : whole_line l ≡ Ok tt → (f : Result FirstLine Fault) → first_line l.bytes line1 ≡ f → opened f behind ≡ Ok p → Told text
      begun w (Ok first) b g = told_by text j h size l ls split w first b (reads_told (opening first) (long l.bytes) 1 ls p g)
      begun w (Err fault) b g = not_ok g

      line : (f : Result (Unit {0}) Fault) → whole_line l ≡ f → whole f (opened (first_line l.bytes line1) behind) ≡ Ok p → Told text
      line (Ok u) w g = begun w (first_line l.bytes line1) refl g
      line (Err fault) w g = not_ok g

-- a job is accepted with its table
pub is_job : (text : List ℕ) → IsJob text → reading text ≡ Ok (job_of text)
is_job text h = go (reading text) h
  where
    go : (r : Result Job Refusal) → IsOk r → r ≡ Ok (table_of r)
    go (Ok j) h = refl
    go (Err r) h = absurd (false≢true h)

pub told : (text : List ℕ) → IsJob text → Told text
unfolding reading program_of
told text h =
    let e = is_job text h in
    let (p, a, _) = then_told (program_of text) (from_lemmas text) (job_of text) e in
    let (size, b) = taken (within 1 max_text (length text)) _ a in
    told_rows text (job_of text) e size p (lines text) refl b
