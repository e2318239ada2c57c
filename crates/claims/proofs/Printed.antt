-- The opening and the texts of the pieces are the whole text, since the pieces joined are the clauses: `printed_whole`, at the end.
use mathlib.Core.Path.{◌≡◌, refl, sym, ap, ◌∙◌}
use mathlib.Core.Bool.{true}
use mathlib.Core.List.{List, [], ◌∷◌, ◌++◌}
use Prim.Native.Nat.{ℕ, ◌+◌, ◌≤◌}
use native.Mathlib.Omega.{arith}
use lib.ListN.{length}
use Rattle.job.specs.declared.Job.{Job}
use Rattle.job.specs.Fitness.{fit}
use Rattle.cnf.specs.Piece.{flat, piece}
use Rattle.parse.specs.Reading.{read_job}
use Rattle.parse.proofs.AcceptedFit.{accepted_fit}
use Rattle.pieces.specs.AllClauses.{joined, Roomy}
use Rattle.pieces.proofs.Joined.{all_clauses}
use Rattle.text.specs.Dimacs.{numbers_text}
use Rattle.outputs.specs.Dimacs.{clause_text, dimacs, opened}
use Rattle.outputs.proofs.PieceLaws.{clause_text_append, next_is}
use Rattle.form.specs.OneForm.{IsJob, job_of}
use Rattle.form.proofs.AcceptedLaws.{is_job}
use Rattle.claims.specs.Printed.{piece_texts, PrintedWhole}

module _ (J : Job) (h : fit J ≡ true) where
  texts_joined : (c : ℕ) (rooms : List ℕ) → 1 ≤ c → Roomy rooms → piece_texts J c rooms ≡ clause_text (joined J c rooms)
  unfolding piece_texts joined flat numbers_text
  texts_joined c [] low wide = refl
  texts_joined c (room ∷ rooms) low wide =
      let p = piece J c room in
      rw (next_is J h c room low wide.0)
      (ap (λ l. clause_text p ++ l) (texts_joined (c + length p) rooms (omega arith) wide.1)
      ∙ sym (clause_text_append p (joined J (c + length p) rooms)))

pub printed_whole : (text : List ℕ) → IsJob text → PrintedWhole text
unfolding read_job opened dimacs
printed_whole text is rooms wide enough =
    let J = job_of text in
    let fits = accepted_fit text J (is_job text is) in
    let pieces = texts_joined J fits 1 rooms (omega arith) wide ∙ ap clause_text ((all_clauses J fits).pieces rooms wide enough) in
    ap (λ l. opened text ++ l) pieces ∙ rw (is_job text is)
