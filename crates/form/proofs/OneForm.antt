-- The claims of document 02, S-1, over all accepted texts: `one_form` and `equal_exactly`, at the end.
use mathlib.Core.Path.{◌≡◌, refl, sym, ap, ◌∙◌}
use mathlib.Core.List.{List, [], ◌∷◌, ◌++◌, map}
use Prim.Native.Nat.{ℕ}
use native.Mathlib.Omega.{arith}
use Rattle.std.specs.Prelude.{Result, Ok}
use lib.ListN.{drop}
use Rattle.job.specs.declared.Job.{Job}
use Rattle.job.specs.declared.Program.{Program}
use Rattle.job.specs.declared.Word.{Word}
use Rattle.job.specs.declared.Word.TheVariants.{Free, Start, Crash}
use Rattle.job.specs.declared.refusal.Refusal.{Refusal}
use Rattle.scan.specs.Lines.{lines}
use Rattle.lines.specs.FirstLine.{first_line, code_of}
use Rattle.lines.specs.declared.FirstLine.{FirstLine}
use Rattle.program.specs.Draft.{blank}
use Rattle.program.specs.Program.{program}
use Rattle.program.specs.declared.Draft.{Draft}
use Rattle.program.specs.declared.ProgramPart.{ProgramPart}
use Rattle.parse.specs.Answers.{without_lemmas}
use Rattle.parse.specs.Labels.{link}
use Rattle.parse.proofs.AnswerLaws.{holds_of}
use Rattle.parse.proofs.LabelLaws.{Steady, link_steady}
use Rattle.form.specs.Lemmas.{filed}
use Rattle.form.specs.Form.{kept, lemmas_word, lemma_text, lemmas_of, ended, form}
use Rattle.form.specs.OneForm.{IsJob, job_of, form_of, Agree, OneForm, EqualExactly}
use Rattle.form.proofs.ResultLaws.{ok_same}
use Rattle.form.proofs.FiledLaws.{filed_twice, filed_among, among_filed}
use Rattle.form.proofs.RunLaws.{runs_same}
use Rattle.form.proofs.LemmaLineLaws.{lines_keep}
use Rattle.form.proofs.LineNumberLaws.{relined, Passes, at_start}
use Rattle.form.proofs.KeptLaws.{joined}
use Rattle.form.proofs.Line1Laws.{line1, line1_same}
use Rattle.form.proofs.AcceptedLaws.{opening, Told, told}
use Rattle.form.proofs.ReadAgainLaws.{Named, texts_same, table_is, kept_lines, form_shorter, form_accepted, form_kept, form_program}
use Rattle.form.proofs.ReadAgainLaws.{form_named, form_lemmas}

-- forms of the same kept lines, names and filed lemmas
form_same : (a b : List ℕ) (J K : Job) → kept (lines b) ≡ kept (lines a) → Named J K → filed (lemmas_of K) ≡ filed (lemmas_of J)
    → form b K ≡ form a J
unfolding form
form_same a b J K k n f =
    ap (λ x. ended (x ++ (lemmas_word ∷ map (lemma_text K) (filed (lemmas_of K))))) k
    ∙ ap (λ x. ended (kept (lines a) ++ (lemmas_word ∷ x))) (ap (map (lemma_text K)) f ∙ texts_same J K n (filed (lemmas_of J)))

-- ---- equal exactly

linked_steady : {d : Draft} (p : Passes d) → Steady d.program p.linked
linked_steady {d} p = holds_of (Steady d.program) (link d d.program.steps) p.linked (link_steady d d.program.steps) p.labelled

-- the table's bound and word are those of line 1
line1_table : (text : List ℕ) (T : Told text)
    → ((job_of text).program.bound ≡ T.says.bound) × ((job_of text).program.word ≡ code_of T.says.word)
unfolding without_lemmas blank
line1_table text T =
    let d = T.reads.start in
    let kept_program = (lines_keep (at_start d T.passes) T.reads.rest).0 in
    let (bound, _, _, _, _, _, _, word) = linked_steady T.passes in (
      ap (λ (j : Job). j.program.bound) (table_is text T) ∙ ap (λ (P : Program). P.bound) kept_program
          ∙ bound ∙ T.reads.line1.0,
      ap (λ (j : Job). j.program.word) (table_is text T) ∙ ap (λ (P : Program). P.word) kept_program
          ∙ word ∙ T.reads.line1.1,
    )

-- and its names are those of the draft at `lemmas`
names_are : (text : List ℕ) (T : Told text)
    → ((job_of text).program.steps ≡ T.reads.start.program.steps) × ((job_of text).labels ≡ T.reads.start.labels)
    × ((job_of text).names ≡ T.reads.start.names)
unfolding without_lemmas
names_are text T =
    let d = T.reads.start in
    let (p, q, r) = lines_keep (at_start d T.passes) T.reads.rest in
    let steady = linked_steady T.passes in (
      ap (λ (j : Job). j.program.steps) (table_is text T) ∙ ap (λ (P : Program). P.steps) p ∙ steady.1,
      ap (λ (j : Job). j.labels) (table_is text T) ∙ q,
      ap (λ (j : Job). j.names) (table_is text T) ∙ r,
    )

-- line 1 is told by its numbers in the table
said_same : {l k : FirstLine} → l.bound ≡ k.bound → code_of l.word ≡ code_of k.word → l ≡ k
said_same {l} {k} e f = λ i. record { bound = e i; word = word_same l.word k.word f i }
  where
    word_same : (v w : Word) → code_of v ≡ code_of w → v ≡ w
    word_same Free Free e = refl
    word_same Start Start e = refl
    word_same Crash Crash e = refl
    word_same Free Start e = absurd (omega arith)
    word_same Free Crash e = absurd (omega arith)
    word_same Start Free e = absurd (omega arith)
    word_same Start Crash e = absurd (omega arith)
    word_same Crash Free e = absurd (omega arith)
    word_same Crash Start e = absurd (omega arith)

-- the lines behind line 1
behind_1 : (text : List ℕ) (T : Told text) → kept T.others ≡ kept (drop 1 (lines text))
behind_1 text T = ap (λ ls. kept (drop 1 ls)) (sym T.lines_are)

module _ (a b : List ℕ) (A : Told a) (B : Told b) where
  -- texts of one line 1 and the same kept lines have the same names
  drafts_same : A.says ≡ B.says → kept A.others ≡ kept B.others
      → (ms : List ℕ) × (ns : List ℕ) × (relined A.reads.start ms ≡ relined B.reads.start ns)
  drafts_same says k =
      let (i, ms, p) = A.reads.again (opening A.says).line 0 1 [] in
      let (j, ns, q) = B.reads.again (opening B.says).line 0 1 [] in
      let same : read A.says (kept A.others) ≡ read B.says (kept B.others) =
      ap (λ l. read l (kept A.others)) says ∙ ap (read B.says) k in
      (ms, ns, ap (λ (x : ProgramPart). x.draft) (ok_same (sym p ∙ same ∙ q)))
    where
      read : FirstLine → List (List ℕ) → Result ProgramPart Refusal
      read first ls = program (opening first) 0 1 (joined ls [])

  named_same : A.says ≡ B.says → kept A.others ≡ kept B.others → Named (job_of b) (job_of a)
  named_same says k =
      let (ms, ns, d) = drafts_same says k in
      let (s, l, n) = names_are a A in
      let (s', l', n') = names_are b B in
      record {
        steps = s ∙ ap (λ (x : Draft). x.program.steps) d ∙ sym s';
        labels = l ∙ ap (λ (x : Draft). x.labels) d ∙ sym l';
        names = n ∙ ap (λ (x : Draft). x.names) d ∙ sym n';
      }

  agree_equal : Agree a b → form_of a ≡ form_of b
  agree_equal g =
      let (bound-a, word-a) = line1_table a A in
      let (bound-b, word-b) = line1_table b B in
      let says : A.says ≡ B.says = said_same (sym bound-a ∙ g.bound ∙ bound-b) (sym word-a ∙ g.word ∙ word-b) in
      let steps : kept A.others ≡ kept B.others = behind_1 a A ∙ g.steps ∙ sym (behind_1 b B) in
      let first : A.first.bytes ≡ B.first.bytes =
      line1_same A.first.bytes B.first.bytes B.says (A.line1_is ∙ ap Ok says) B.line1_is in
      let lines_same : kept (lines a) ≡ kept (lines b) =
      kept_lines a A ∙ ap (λ l. l ∷ kept A.others) first ∙ ap (λ ls. B.first.bytes ∷ ls) steps ∙ sym (kept_lines b B) in
      form_same b a (job_of b) (job_of a) lines_same (named_same says steps)
      (among_filed (lemmas_of (job_of a)) (lemmas_of (job_of b)) g.lemmas g.lemmas_back)

  equal_agree : form_of a ≡ form_of b → Agree a b
  equal_agree e =
      let lines_same : A.first.bytes ∷ kept A.others ≡ B.first.bytes ∷ kept B.others =
      sym (form_kept a A ∙ kept_lines a A) ∙ ap (λ x. kept (lines x)) e ∙ form_kept b B ∙ kept_lines b B in
      let first : A.first.bytes ≡ B.first.bytes = cc in
      let steps : kept A.others ≡ kept B.others = cc in
      let says = ok_same (sym A.line1_is ∙ ap (λ s. first_line s line1) first ∙ B.line1_is) in
      let (bound-a, word-a) = line1_table a A in
      let (bound-b, word-b) = line1_table b B in
      let lemmas : filed (lemmas_of (job_of a)) ≡ filed (lemmas_of (job_of b)) =
      sym (form_lemmas a A) ∙ ap (λ x. lemmas_of (job_of x)) e ∙ form_lemmas b B in
      record {
        bound = bound-a ∙ ap (λ (l : FirstLine). l.bound) says ∙ sym bound-b;
        word = word-a ∙ ap (λ (l : FirstLine). code_of l.word) says ∙ sym word-b;
        steps = sym (behind_1 a A) ∙ steps ∙ behind_1 b B;
        lemmas = filed_among (lemmas_of (job_of a)) (lemmas_of (job_of b)) lemmas;
        lemmas_back = filed_among (lemmas_of (job_of b)) (lemmas_of (job_of a)) (sym lemmas);
      }

pub equal_exactly : (a b : List ℕ) → IsJob a → IsJob b → EqualExactly a b
equal_exactly a b h k =
    let A = told a h in
    let B = told b k in
    (equal_agree a b A B, agree_equal a b A B)

-- ---- one form

pub one_form : (text : List ℕ) → IsJob text → OneForm text
one_form text h =
    let T = told text h in
    let again = form_accepted text T in
    let lemmas = form_lemmas text T in
    let named = form_named text T in
    let twice = form_same text (form_of text) (job_of text) (job_of (form_of text)) (form_kept text T) named
    (ap filed lemmas ∙ filed_twice (lemmas_of (job_of text))) in
    record {
      accepted = again;
      agrees = equal_agree (form_of text) text (told (form_of text) again) T twice;
      program = form_program text T;
      labels = named.labels;
      names = named.names;
      twice = twice;
      runs = runs_same (job_of text) (job_of (form_of text)) (form_program text T) lemmas;
      no_longer = form_shorter text T;
    }
