-- What is shown of the filing form (document 02, S-1): claims over all accepted texts. They are proved in proofs/OneForm.
use Rattle.std.specs.Prelude.{◌≡◌, ◌↔◌, List, ℕ, ◌≤◌, length, drop}
use Rattle.std.specs.Result.{IsOk}
use Rattle.order.specs.Sorting.{In, Same}
use Rattle.job.specs.declared.Job.{Job}
use Rattle.job.specs.Literals.{Clause}
use Rattle.job.specs.Meaning.{Run, is_run}
use Rattle.scan.specs.Lines.{lines}
use Rattle.parse.specs.Answers.{table_of}
use Rattle.parse.specs.Reading.{reading}
use Rattle.form.specs.Lemmas.{remaining}
use Rattle.form.specs.Form.{kept, lemmas_of, form}

abbrev pub IsJob : List ℕ → Type 0
IsJob text = IsOk (reading text)

-- its table; that of zeros, where it is refused
abbrev pub job_of : List ℕ → Job
job_of text = table_of (reading text)

abbrev pub form_of : List ℕ → List ℕ
form_of text = form text (job_of text)

-- each lemma of a has one of b with the same names
abbrev pub Among : List Clause → List Clause → Type 0
Among a b = (l : Clause) → In l a → (k : Clause) × In k b × Same l k

-- 'bound, step lines and the remaining lemmas, as sets of sets, agree'; and the word, which 'S-1's equality counts' (S-2)
pub record Agree (a b : List ℕ) : Type 0 where
  pub bound : (job_of a).program.bound ≡ (job_of b).program.bound
  pub word : (job_of a).program.word ≡ (job_of b).program.word
  pub steps : kept (drop 1 (lines a)) ≡ kept (drop 1 (lines b))
  pub lemmas : Among (remaining (lemmas_of (job_of a))) (remaining (lemmas_of (job_of b)))
  pub lemmas_back : Among (remaining (lemmas_of (job_of b))) (remaining (lemmas_of (job_of a)))

pub record OneForm (text : List ℕ) : Type 0 where
  -- what is written is an accepted job
  pub accepted : IsJob (form_of text)
  -- of the same job: line 1, the step lines and the remaining lemmas are the text's own, and so are the steps and every name
  pub agrees : Agree (form_of text) text
  pub program : (job_of (form_of text)).program ≡ (job_of text).program
  pub labels : (job_of (form_of text)).labels ≡ (job_of text).labels
  pub names : (job_of (form_of text)).names ≡ (job_of text).names
  -- 'Filing twice changes nothing;'
  pub twice : form_of (form_of text) ≡ form_of text
  -- 'runs are the same;'
  pub runs : (R : Run) → is_run (job_of (form_of text)) R ≡ is_run (job_of text) R
  -- 'the text never grows.'
  pub no_longer : length (form_of text) ≤ length text

-- 'Two accepted jobs get equal texts exactly when ..'
abbrev pub EqualExactly : List ℕ → List ℕ → Type 0
EqualExactly a b = (form_of a ≡ form_of b) ↔ Agree a b
