-- The text of a reply by the answers of the calls: 52, the checker's refusal, that of reading off, or the lines of the run.
use mathlib.Core.Path.{◌≡◌, refl, sym, ap, ◌∙◌}
use mathlib.Core.Bool.{Bool, true, false, ◌||◌, cond}
use mathlib.Core.List.{List}
use Prim.Native.Nat.{ℕ, suc, ◌≤◌, ◌<◌}
use native.Mathlib.Omega.{arith}
use borrow.Author.Tests.{lt-ltb, le-ltb}
use native.Mathlib.Numerals.{add-one}
use lib.Dec.{ltb}
use lib.ListN.{length}
use Rattle.lists.specs.Rows.{each}
use Rattle.lists.specs.Writing.{write}
use Rattle.lists.proofs.Logic.{or_right}
use Rattle.job.specs.declared.Job.{Job}
use Rattle.job.specs.declared.Program.{Program}
use Rattle.job.specs.declared.refusal.Refusal.{Refusal}
use Rattle.std.specs.Prelude.{Result, Ok, Err}
use Rattle.job.specs.Answers.{gives, answer_of}
use Rattle.job.specs.Table.{r}
use Rattle.job.specs.Numbering.{total}
use Rattle.job.specs.Fitness.{fit}
use Rattle.job.specs.ReadOff.{Reading, run, fault, read_fault, run_read, read_off, run_bytes}
use Rattle.job.proofs.FitnessLaws.{fit_sizes}
use Rattle.reply.specs.Answers.{outcome}
use Rattle.reply.specs.Check.{checked}
use Rattle.readoff.specs.ReadingOff.{refusal, named, run_length, reading_fit, reading_off}
use Rattle.readoff.specs.ReadingOff.{Outcome as Read}
use Rattle.text.specs.Lines.{refusal_line, refused}
use Rattle.text.specs.RunText.{run_line, run_lines}
use Rattle.text.specs.Texts.{texted, with_texts}
use Rattle.text.specs.declared.Texted.{Texted}
use Rattle.text.proofs.GroupLaws.{within_limits}
use Rattle.text.proofs.AllTexts.{texts_all}
use Rattle.outputs.specs.Printing.{or_refusal, zeros}
use Rattle.outputs.specs.Show.{max_shown, run_room, shown_room, run_text, checked_text, reply_text}
use Rattle.outputs.proofs.RunLength.{run_fits}

-- ---- the run that values name

module _ (J : Job) (fits : fit J ≡ true) (values : List ℕ) where
  abbrev P : Program
  P = J.program

  abbrev bytes : List ℕ
  bytes = (reading_off J values (zeros run_room)).buffer

  -- reading off that does not refuse gives the bytes of the run
  abbrev Written-bytes : Read → Type 0
  Written-bytes o = gives tt ≡ o.answer → o.buffer ≡ write (zeros run_room) 0 (run_bytes P (run_read P values))

  not_written : (number place : ℕ) → Written-bytes (refusal number place (zeros run_room))
  not_written number place e = let z : ◌≡◌ {A = ℕ} 0 1 = cc in absurd (omega arith)

  read_bytes : Written-bytes (reading_off J values (zeros run_room))
  unfolding reading_off reading_fit read_off
  read_bytes =
      let short = ltb (length values) (total P) || ltb (length (zeros run_room)) (run_length P) in
      rw fits (go short (ltb (read_fault P values) (suc (suc (r P)))))
    where
      reads : Bool → Reading
      reads faulty = cond faulty (fault (read_fault P values)) (run (run_read P values))

      go : (short faulty : Bool) → Written-bytes (cond short (refusal 51 0 (zeros run_room)) (named P (reads faulty) (zeros run_room)))
      go true faulty = not_written 51 0
      go false true = not_written 67 (read_fault P values)
      go false false = λ e. refl

  module _ (told : Result (Unit {0}) Refusal) (given : answer_of told ≡ (reading_off J values (zeros run_room)).answer) where
    pub run_refused : (f : Refusal) → told ≡ Err f → refused f ≡ run_text J values
    unfolding run_text
    run_refused f e = ap (λ a. or_refusal a λ _. each (suc (r P)) (run_line J bytes)) (sym (ap answer_of e) ∙ given)

    run_is : told ≡ Ok tt → each (suc (r P)) (run_line J bytes) ≡ run_text J values
    unfolding run_text
    run_is e = ap (λ a. or_refusal a λ _. each (suc (r P)) (run_line J bytes)) (sym (ap answer_of e) ∙ given)

    -- the lines have room, so that all of them are written
    pub run_written : (old buffer out : List ℕ) (t : Texted) → told ≡ Ok tt → buffer ≡ bytes → shown_room ≤ length old
        → (t ≡ texted (run_lines J) (run_line J buffer) old) × (out ≡ with_texts (run_lines J) (run_line J buffer) old)
        → (t.bytes ≡ length (run_text J values)) × (out ≡ write old 0 (run_text J values))
    run_written old buffer out t e b room (count, holds) =
        let z = fit_sizes J fits in
        let n : run_lines J ≡ suc (r P) = within_limits J z.bound_high z.variables ∙ add-one (r P) in
        let lines = each (suc (r P)) (run_line J bytes) in
        let short : length lines ≤ shown_room = rw (read_bytes (sym (ap answer_of e) ∙ given)) (run_fits J fits values (zeros run_room)) in
        let all = texts_all (suc (r P)) (run_line J bytes) old (omega arith) in
        let counted : t ≡ record { count = suc (r P); bytes = length lines } = count ∙ rw (n, b) all.0 in (
          ap (λ (t : Texted). t.bytes) counted ∙ ap length (run_is e),
          holds ∙ rw (n, b) all.1 ∙ ap (write old 0) (run_is e),
        )

-- ---- 52, and the checker's answer

module _ (J : Job) (reply : List ℕ) where
  pub many_variables : max_shown < total J.program → refusal_line 52 0 ≡ reply_text J reply
  unfolding reply_text
  many_variables h = rw (lt-ltb max_shown (total J.program) h)

  pub long_reply : max_shown < length reply → refusal_line 52 0 ≡ reply_text J reply
  unfolding reply_text
  long_reply h = rw (or_right (ltb max_shown (total J.program)) (lt-ltb max_shown (length reply) h))

  module _ (few : total J.program ≤ max_shown) (short : length reply ≤ max_shown) (answer : Result (Unit {0}) Refusal) (values : List ℕ)
      (given : outcome answer values ≡ checked J reply (zeros max_shown)) where
    is_checked : checked_text J (outcome answer values) ≡ reply_text J reply
    unfolding reply_text
    is_checked = ap (checked_text J) given ∙ rw (le-ltb max_shown (total J.program) few, le-ltb max_shown (length reply) short)

    pub reply_accepted : answer ≡ Ok tt → run_text J values ≡ reply_text J reply
    reply_accepted e = ap (λ a. checked_text J (outcome a values)) (sym e) ∙ is_checked

    pub reply_refused : (f : Refusal) → answer ≡ Err f → refused f ≡ reply_text J reply
    reply_refused f e = ap (λ a. checked_text J (outcome a values)) (sym e) ∙ is_checked
