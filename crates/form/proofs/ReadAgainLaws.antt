-- What is written is read again: an accepted text's form is accepted, with the same program and names and with the filed lemmas.
use mathlib.Core.Path.{◌≡◌, refl, sym, ap, ◌∙◌, subst}
use mathlib.Core.Bool.{true, cond}
use mathlib.Core.Logic.{◌⊎◌, inl, inr}
use mathlib.Core.List.{List, [], ◌∷◌, ◌++◌, map, map-append, append_assoc}
use Prim.Native.Nat.{ℕ, ◌+◌, ◌*◌, ◌≤◌}
use native.Mathlib.Omega.{arith}
use Rattle.std.specs.Prelude.{Ok}
use Rattle.std.specs.Result.{is_ok}
use lib.IntN.{ℤ, pos}
use lib.ListN.{length, length-replicate}
use Rattle.lists.specs.Rows.{each, tab}
use Rattle.lists.specs.Tests.{within}
use Rattle.lists.proofs.TestLaws.{within_is}
use Rattle.order.specs.Sorting.{In}
use Rattle.order.proofs.MemberLaws.{in_append, map_same}
use Rattle.order.proofs.WeightLaws.{weight, weight_append, weight_map}
use Rattle.job.specs.Limits.{max_text, max_lemmas, max_names}
use Rattle.job.specs.declared.Job.{Job}
use Rattle.job.specs.declared.Program.{Program}
use Rattle.job.specs.declared.Literal.{Literal}
use Rattle.job.specs.declared.Literal.TheVariants.{On, Off}
use Rattle.job.specs.Literals.{Clause}
use Rattle.job.specs.Table.{lemma}
use Rattle.scan.specs.Lines.{Row, row, lines}
use Rattle.fields.specs.Fields.{whole_line}
use Rattle.program.specs.Program.{reached, program}
use Rattle.program.specs.declared.Draft.{Draft}
use Rattle.parse.specs.Answers.{table_of, without_lemmas}
use Rattle.parse.specs.Lemmas.{lemma_lines}
use Rattle.parse.specs.Reading.{reading}
use Rattle.parse.proofs.AnswerLaws.{goes_on}
use Rattle.form.specs.Lemmas.{filed}
use Rattle.form.specs.Form.{kept, lemmas_word, name_of, spelt, spaced, lemma_text, lemmas_of, ended, form}
use Rattle.form.specs.OneForm.{IsJob, job_of, form_of}
use Rattle.form.proofs.WrittenLaws.{Free, long, as_rows, row_length, lines_ended, length_ended, line_free, lines_weight, whole_told}
use Rattle.form.proofs.LemmaLineLaws.{Sized, AllSound, literals, with_lines, lines_are, lines_keep, lines_add}
use Rattle.form.proofs.LineNumberLaws.{relined, at_start, passes_are, passes_relined, start_relined}
use Rattle.form.proofs.KeptLaws.{joined, kept_line, kept_again, kept_in}
use Rattle.form.proofs.ProgramAgainLaws.{lemmas_whole, whole_ended, rows_long, Leads}
use Rattle.form.proofs.Line1Laws.{line1_kept}
use Rattle.form.proofs.FiledLineLaws.{plain_bytes, no_lf, filed_lines, filed_free, filed_sound, filed_read, filed_fewer, filed_shorter}
use Rattle.form.proofs.AcceptedLaws.{opening, reading_is, Told, no_lemmas}

-- tables with the same names
pub record Named (J K : Job) : Type 0 where
  pub steps : K.program.steps ≡ J.program.steps
  pub labels : K.labels ≡ J.labels
  pub names : K.names ≡ J.names

pub texts_same : (J K : Job) → Named J K → (cs : List Clause) → map (lemma_text K) cs ≡ map (lemma_text J) cs
unfolding spelt name_of
texts_same J K N cs = map_same (lemma_text K) (lemma_text J) cs λ c i. ap spaced (map_same (spelt K) (spelt J) c λ z j. word z)
  where
    name : (x : ℕ) → name_of K x ≡ name_of J x
    name x = rw (N.steps, N.labels, N.names)

    word : (z : Literal) → spelt K z ≡ spelt J z
    word (On x) = name x
    word (Off x) = ap (λ l. 126 ∷ l) (name x)

-- lemma lines leave them
lines_named : (J : Job) (ls : List Row) → Named J (with_lines J ls)
lines_named J ls =
    let (p, q, r) = lines_keep J ls in
    record { steps = ap (λ (P : Program). P.steps) p; labels = q; names = r }

lemmas_free : Free 10 lemmas_word
lemmas_free b i = no_lf b (plain_bytes lemmas_word (whole_told (row lemmas_word true) lemmas_whole).bytes b i)

-- lines that are whole have their LF
rows_long_lem : (ls : List Row) → ((l : Row) → In l ls → whole_line l ≡ Ok tt) → weight row_length ls ≡ rows_long ls
unfolding weight
rows_long_lem [] h = refl
rows_long_lem (l ∷ ls) h =
    let one = ap (λ b. length l.bytes + cond b 1 0) (whole_told l (h l (inl refl))).ends in
    omega (arith, rows_long_lem ls (λ k i. h k (inr i)))

module _ (text : List ℕ) (T : Told text) where
  -- the draft at `lemmas`, and the table there
  abbrev draft : Draft
  draft = T.reads.start

  abbrev base : Job
  base = at_start draft T.passes

  abbrev rest : List Row
  rest = T.reads.rest

  abbrev behind : List (List ℕ)
  behind = kept T.others

  abbrev written : List (List ℕ)
  written = filed_lines base rest T.sound

  -- line 1, the kept lines behind it, `lemmas`, the filed lemmas
  abbrev formed : List (List ℕ)
  formed = T.first.bytes ∷ (behind ++ (lemmas_word ∷ written))

  pub table_is : job_of text ≡ with_lines base rest
  table_is = ap table_of T.table

  sized : Sized base
  unfolding without_lemmas
  sized = record {
    lengths_size = length-replicate {0} {A = ℕ} max_lemmas 0;
    items_size = length-replicate {0} {A = ℤ} (max_lemmas * max_names) (pos 0);
    short = λ k h. absurd (omega arith);
  }

  none : lemmas_of base ≡ []
  unfolding each
  none = ap (λ n. tab n (lemma base)) (no_lemmas draft T.passes)

  lemmas_are : (ls : List Row) → length ls ≤ max_lemmas → AllSound base ls → lemmas_of (with_lines base ls) ≡ map (literals base) ls
  lemmas_are ls few sound =
      lines_add base ls sized (omega (arith, no_lemmas draft T.passes)) sound ∙ ap (λ x. x ++ map (literals base) ls) none

  pub kept_lines : kept (lines text) ≡ T.first.bytes ∷ behind
  kept_lines =
      let (a, b) = line1_kept T.first.bytes T.says T.line1_is in
      ap kept T.lines_are ∙ kept_line T.first T.others a b

  lemma_lines_lem : map (lemma_text (job_of text)) (filed (lemmas_of (job_of text))) ≡ written
  lemma_lines_lem =
      ap (λ (j : Job). map (lemma_text j) (filed (lemmas_of j))) table_is
      ∙ ap (λ x. map (lemma_text (with_lines base rest)) (filed x)) (lemmas_are rest T.few T.sound)
      ∙ texts_same base (with_lines base rest) (lines_named base rest) (filed (map (literals base) rest))

  form_is : form_of text ≡ ended formed
  unfolding form
  form_is =
      ap (λ x. ended (x ++ (lemmas_word ∷ map (lemma_text (job_of text)) (filed (lemmas_of (job_of text)))))) kept_lines
      ∙ ap (λ x. ended (T.first.bytes ∷ (behind ++ (lemmas_word ∷ x)))) lemma_lines_lem

  formed_free : (l : List ℕ) → In l formed → Free 10 l
  formed_free l i = go i
    where
      read : (k : Row) → In k (T.first ∷ T.others) → l ≡ k.bytes → Free 10 l
      read k j e = subst (Free 10) (sym e) (line_free text k (subst (In k) (sym T.lines_are) j))

      later : In l behind ⊎ In l (lemmas_word ∷ written) → Free 10 l
      later (inl j) = let (k, m, e) = kept_in T.others l j in read k (inr m) e
      later (inr (inl e)) = subst (Free 10) (sym e) lemmas_free
      later (inr (inr j)) = filed_free base rest T.sound l j

      go : (l ≡ T.first.bytes) ⊎ In l (behind ++ (lemmas_word ∷ written)) → Free 10 l
      go (inl e) = read T.first (inl refl) e
      go (inr j) = later (in_append l behind (lemmas_word ∷ written) j)

  form_lines_lem : lines (form_of text) ≡ row T.first.bytes true ∷ joined behind (as_rows written)
  form_lines_lem =
      ap lines form_is
      ∙ lines_ended formed formed_free
      ∙ ap (λ x. row T.first.bytes true ∷ x) (map-append (λ l. row l true) behind (lemmas_word ∷ written))

  -- ---- 'the text never grows.'

  form_long : length (form_of text) ≡ long T.first.bytes + (weight long behind + (long lemmas_word + weight long written))
  unfolding weight
  form_long =
      ap length form_is ∙ length_ended formed ∙ ap (λ n. long T.first.bytes + n) (weight_append long behind (lemmas_word ∷ written))

  text_long : length text ≡ long T.first.bytes + (rows_long T.reads.front + rows_long rest)
  unfolding weight
  text_long =
      sym (lines_weight text)
      ∙ ap (weight row_length) (T.lines_are ∙ ap (λ x. T.first ∷ x) T.reads.parts)
      ∙ rows_long_lem (T.first ∷ (T.reads.front ++ rest)) wholes
      ∙ ap (λ n. long T.first.bytes + n) (weight_append (λ (l : Row). long l.bytes) T.reads.front rest)
    where
      wholes : (l : Row) → (l ≡ T.first) ⊎ In l (T.reads.front ++ rest) → whole_line l ≡ Ok tt
      wholes l (inl e) = ap whole_line e ∙ T.whole_first
      wholes l (inr i) = go (in_append l T.reads.front rest i)
        where
          go : In l T.reads.front ⊎ In l rest → whole_line l ≡ Ok tt
          go (inl j) = T.reads.wholes l j
          go (inr j) = (T.sound l j).whole_line

  pub form_shorter : length (form_of text) ≤ length text
  form_shorter = omega (arith, form_long, text_long, T.reads.shorter, filed_shorter base rest T.sound)

  -- ---- the form is read

  -- its lines up to `lemmas`
  abbrev up_to : List Row
  up_to = as_rows behind ++ (row lemmas_word true ∷ [])

  up_to_long : rows_long up_to ≡ weight long behind + long lemmas_word
  unfolding weight
  up_to_long =
      let bytes : (Row → ℕ) = λ l. long l.bytes in
      omega (arith, weight_append bytes (as_rows behind) (row lemmas_word true ∷ []), weight_map bytes (λ l. row l true) behind)

  form_size : within 1 max_text (length (form_of text)) ≡ true
  form_size = within_is 1 max_text (length (form_of text)) (omega (arith, form_long)) (omega (arith, form_shorter, T.size))

  form_reading : Leads (opening T.says) (long T.first.bytes) 1 behind (as_rows written) draft
      → reading (form_of text) ≡ Ok (with_lines base (as_rows written))
  form_reading (k, ms, q) =
      let d = relined draft ms in
      let n = long T.first.bytes in
      let parts : joined behind (as_rows written) ≡ up_to ++ as_rows written =
      sym (append_assoc (as_rows behind) (row lemmas_word true ∷ []) (as_rows written)) in
      let place : n + weight long behind + long lemmas_word ≡ n + rows_long up_to = omega (arith, up_to_long) in
      let goes : program (opening T.says) n 1 (up_to ++ as_rows written) ≡ Ok (reached k (n + rows_long up_to) d) =
      ap (program (opening T.says) n 1) (sym parts) ∙ q ∙ ap (λ p. Ok (reached k p d)) place in
      let room : base.lemmas + length (as_rows written) ≤ max_lemmas =
      omega (arith, no_lemmas draft T.passes, filed_fewer base rest T.sound, T.few) in
      reading_is (form_of text) (row T.first.bytes true) up_to (as_rows written) T.says k d form_size
      (form_lines_lem ∙ ap (λ x. row T.first.bytes true ∷ x) parts) (whole_ended T.first T.whole_first) T.line1_is goes
      ∙ goes_on _ _ _ (passes_are d k (passes_relined draft ms T.passes))
      ∙ ap (λ j. lemma_lines j k (as_rows written)) (start_relined draft ms T.passes)
      ∙ lines_are base k (as_rows written) room (filed_sound base rest T.sound)

  form_read : reading (form_of text) ≡ Ok (with_lines base (as_rows written))
  form_read = form_reading (T.reads.again (opening T.says).line (long T.first.bytes) 1 (as_rows written))

  -- ---- what its table is

  form_table : job_of (form_of text) ≡ with_lines base (as_rows written)
  form_table = ap table_of form_read

  pub form_accepted : IsJob (form_of text)
  form_accepted = ap is_ok form_read

  pub form_kept : kept (lines (form_of text)) ≡ kept (lines text)
  form_kept =
      let (a, b) = line1_kept T.first.bytes T.says T.line1_is in
      ap kept form_lines_lem
      ∙ kept_line (row T.first.bytes true) (joined behind (as_rows written)) a b
      ∙ ap (λ x. T.first.bytes ∷ x) (kept_again T.others (as_rows written))
      ∙ sym kept_lines

  pub form_program : (job_of (form_of text)).program ≡ (job_of text).program
  form_program =
      ap (λ (j : Job). j.program) form_table ∙ (lines_keep base (as_rows written)).0
      ∙ sym (ap (λ (j : Job). j.program) table_is ∙ (lines_keep base rest).0)

  pub form_named : Named (job_of text) (job_of (form_of text))
  form_named = record {
    steps = ap (λ (P : Program). P.steps) form_program;
    labels = ap (λ (j : Job). j.labels) form_table ∙ (lines_keep base (as_rows written)).1
        ∙ sym (ap (λ (j : Job). j.labels) table_is ∙ (lines_keep base rest).1);
    names = ap (λ (j : Job). j.names) form_table ∙ (lines_keep base (as_rows written)).2
        ∙ sym (ap (λ (j : Job). j.names) table_is ∙ (lines_keep base rest).2);
  }

  pub form_lemmas : lemmas_of (job_of (form_of text)) ≡ filed (lemmas_of (job_of text))
  form_lemmas =
      ap (λ (j : Job). lemmas_of j) form_table
      ∙ lemmas_are (as_rows written) (omega (arith, filed_fewer base rest T.sound, T.few)) (filed_sound base rest T.sound)
      ∙ filed_read base rest T.sound
      ∙ ap filed (sym (ap (λ (j : Job). lemmas_of j) table_is ∙ lemmas_are rest T.few T.sound))
