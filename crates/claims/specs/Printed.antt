-- What the first program prints of an accepted text, part by part (crate outputs): as many pieces as there are clauses, whatever their
-- sizes, are its whole text. It is proved of every accepted text in proofs/Printed.
use Rattle.std.specs.Prelude.{◌≡◌, List, [], ◌∷◌, ◌++◌, ℕ, ◌+◌, ◌≤◌, length}
use Rattle.job.specs.declared.Job.{Job}
use Rattle.job.specs.Clauses.{clauses}
use Rattle.pieces.specs.AllClauses.{Roomy}
use Rattle.outputs.specs.Dimacs.{clause_text, dimacs, opened, next_piece}
use Rattle.form.specs.OneForm.{job_of}

-- the text of one piece after the other, each with so much room, from clause c on
unfoldable pub piece_texts : Job → ℕ → List ℕ → List ℕ
piece_texts J c [] = []
piece_texts J c (room ∷ rooms) = clause_text (next_piece J c room) ++ piece_texts J (c + length (next_piece J c room)) rooms

abbrev pub PrintedWhole : List ℕ → Type 0
PrintedWhole text = (rooms : List ℕ) → Roomy rooms → length (clauses (job_of text)) ≤ length rooms
    → opened text ++ piece_texts (job_of text) 1 rooms ≡ dimacs text
