-- Filing as a call, of an accepted text: into a buffer no shorter than the text it writes the form, keeps the bytes past it, and gives the
-- form's length. It is proved of every accepted text in proofs/Filed.
use Rattle.std.specs.Prelude.{◌≡◌, List, ℕ, ◌≤◌, length}
use Rattle.form.specs.OneForm.{form_of}
use Rattle.filing.specs.Filing.{written, filing}

abbrev pub FiledWhole : List ℕ → Type 0
FiledWhole text = (buffer : List ℕ) → length text ≤ length buffer → filing text buffer ≡ written (form_of text) buffer
