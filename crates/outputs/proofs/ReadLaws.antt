-- What is printed of a text by what reading it answered: a job or a refusal.
use Rattle.std.proofs.Common.{◌≡◌, refl, sym, ap, ◌∙◌, true, List, ◌++◌, append-nil, ℕ, ◌≤◌, arith, length}
use Rattle.std.proofs.Common.{Some, None}
use Rattle.std.proofs.Common.{Result, Ok, Err}
use Rattle.std.specs.Result.{is_ok}
use borrow.Author.Tests.{le-ltb}
use Rattle.lists.specs.Writing.{write}
use Rattle.job.specs.declared.refusal.Refusal.{Refusal}
use Rattle.job.specs.declared.Job.{Job}
use Rattle.job.specs.Faults.{number_of}
use Rattle.job.specs.Answers.{Answer, gives, refuses, answer_of}
use Rattle.job.specs.Limits.{max_text}
use Rattle.job.specs.Clauses.{clauses}
use Rattle.job.specs.Fitness.{fit}
use Rattle.parse.specs.Answers.{forgotten, table_of}
use Rattle.parse.specs.Reading.{reading, read_job}
use Rattle.parse.proofs.AcceptedFit.{accepted_fit}
use Rattle.form.specs.Form.{form}
use Rattle.form.proofs.AcceptedLaws.{told}
use Rattle.filing.specs.Filing.{judged, filing}
use Rattle.cnf.specs.Piece.{flat}
use Rattle.text.specs.Dimacs.{numbers_text}
use Rattle.text.specs.Lines.{refusal_line, refused}
use Rattle.outputs.specs.declared.dimacs.Following.{Following}
use Rattle.outputs.specs.Printing.{or_refusal, Shows}
use Rattle.outputs.specs.Show.{reply_text, shown}
use Rattle.outputs.specs.Dimacs.{clause_text, before, dimacs, Follows, IsFollowing, opened, behind, following}
use Rattle.outputs.specs.File.{filed}

-- ---- of a job

module _ (text : List ℕ) (J : Job) (e : reading text ≡ Ok J) where
  pub read_fits : fit J ≡ true
  read_fits = accepted_fit text J e

  pub read_short : length text ≤ max_text
  read_short = (told text (ap is_ok e)).size

  pub shown_reply : (reply : List ℕ) → reply_text J reply ≡ shown text reply
  unfolding shown read_job
  shown_reply reply = rw e refl

  pub opened_before : before text J ≡ opened text
  unfolding opened read_job
  opened_before = rw e refl

  pub following_job : (f : Following) → f.fit.job ≡ J → f.clauses ≡ length (clauses J) → IsFollowing text (Some f)
  unfolding read_job
  following_job f j k = rw e (j, k)

-- ---- of a refusal

module _ (text : List ℕ) (r : Refusal) (e : reading text ≡ Err r) where
  pub shown_refused : (reply : List ℕ) → refused r ≡ shown text reply
  unfolding shown read_job
  shown_refused reply = rw e refl

  pub opened_refused : refused r ≡ opened text
  unfolding opened read_job
  opened_refused = rw e refl

  pub following_none : IsFollowing text None
  unfolding read_job
  following_none = rw e tt

-- ---- the first program's output in its two parts

pub dimacs_parts : (text : List ℕ) → opened text ++ clause_text (following text) ≡ dimacs text
unfolding opened following dimacs flat numbers_text
dimacs_parts text = go (read_job text).answer
  where
    go : (a : Answer (Unit {0})) → let J = (read_job text).table in
        or_refusal a (λ _. before text J) ++ clause_text (behind a (clauses J))
        ≡ or_refusal a (λ _. before text J ++ clause_text (clauses J))
    go (gives x) = refl
    go (refuses number place) = append-nil _

-- what is said to follow a text are as many clauses as its job has
pub following_counted : (text : List ℕ) (f : Following) → IsFollowing text (Some f) → f.clauses ≡ length (clauses f.fit.job)
following_counted text f h = go (read_job text).answer h
  where
    go : (a : Answer (Unit {0})) → Follows a (read_job text).table (Some f) → f.clauses ≡ length (clauses f.fit.job)
    go (gives x) (same, count) = count ∙ ap (λ (J : Job). length (clauses J)) (sym same)
    go (refuses number place) h = absurd h

-- ---- filing, with room for any text

module _ (text old new : List ℕ) (room : max_text ≤ length old) (x : Result ℕ Refusal)
    (given : (answer_of x ≡ (filing text old).answer) × (new ≡ (filing text old).buffer)) where
  -- what is printed is the form that the call gives, or its refusal
  pub files : Shows (filed text) x old new
  unfolding filing filed read_job
  files = go (reading text) refl x given.0 given.1
    where
      go : (r : Result Job Refusal) → reading text ≡ r → (x : Result ℕ Refusal)
          → answer_of x ≡ (judged (forgotten (answer_of r)) text (table_of r) old).answer
          → new ≡ (judged (forgotten (answer_of r)) text (table_of r) old).buffer
          → Shows (or_refusal (forgotten (answer_of r)) λ _. form text (table_of r)) x old new
      go (Ok J) e x a b =
          let short = read_short text J e in
          let room = le-ltb (length old) (length text) (omega arith) in
          by x (a ∙ rw room refl) (b ∙ rw room refl)
        where
          by : (x : Result ℕ Refusal) → answer_of x ≡ gives (length (form text J)) → new ≡ write old 0 (form text J)
              → Shows (form text J) x old new
          by (Ok n) a b = (cc, b)
          by (Err r) a b = let z : ◌≡◌ {A = ℕ} 0 1 = cc in absurd (omega arith)
      go (Err r) e (Ok n) a b = let z : ◌≡◌ {A = ℕ} 0 1 = cc in absurd (omega arith)
      go (Err r) e (Err s) a b =
          let number : number_of s.fault ≡ number_of r.fault = cc in
          let place : s.place ≡ r.place = cc in
          (ap (λ n. refusal_line n s.place) number ∙ ap (refusal_line (number_of r.fault)) place, b)
