-- Laws of the lines before `lemmas`: one line, and those behind it.
use Rattle.std.proofs.Common.{◌≡◌, ap, ◌∙◌, true, false, cond, List, [], ◌∷◌, ◌++◌, ℕ, ◌+◌, length}
use Rattle.std.proofs.lemmas.List.{length-append, append_assoc}
use mathlib.Core.Logic.{◌⊎◌, inl, inr}
use Rattle.lists.proofs.Logic.{split}
use Rattle.scan.specs.Lines.{Row}
use Rattle.program.specs.ProgramLine.{is_lemmas, is_comment}
use Rattle.form.specs.Form.{kept, ended}
use Rattle.filing.specs.Lines.{kept_text}

-- ---- one line

module _ (line : List ℕ) where
  pub kept_comment : is_comment line ≡ true → kept_text line ≡ []
  unfolding kept_text
  kept_comment h = rw h

  pub kept_line : is_comment line ≡ false → kept_text line ≡ line ++ (10 ∷ [])
  unfolding kept_text
  kept_line h = rw h

  pub kept_long : is_comment line ≡ false → length (kept_text line) ≡ length line + 1
  kept_long h = ap length (kept_line h) ∙ length-append line (10 ∷ [])

-- ---- a line, and those behind it

abbrev pub left : List Row → List ℕ
left ls = ended (kept ls)

pub left_none : left [] ≡ []
unfolding kept ended
left_none = λ i. []

module _ (l : Row) (ls : List Row) where
  pub left_lemmas : is_lemmas l.bytes ≡ true → left (l ∷ ls) ≡ []
  unfolding kept ended
  left_lemmas h = rw h

  pub left_next : is_lemmas l.bytes ≡ false → left (l ∷ ls) ≡ kept_text l.bytes ++ left ls
  unfolding kept ended kept_text
  left_next h = rw h (go (split (is_comment l.bytes)))
    where
      go : (is_comment l.bytes ≡ true) ⊎ (is_comment l.bytes ≡ false)
          → ended (cond (is_comment l.bytes) (kept ls) (l.bytes ∷ kept ls)) ≡ cond (is_comment l.bytes) [] (l.bytes ++ (10 ∷ [])) ++ left ls
      go (inl c) = rw c
      go (inr c) = rw c (simp append_assoc)
