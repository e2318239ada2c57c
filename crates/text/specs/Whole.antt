-- A text that goes into a buffer whole or not at all.
use Rattle.std.specs.Prelude.{cond, List, ℕ, leb, length, Option, Some, None}
use Rattle.lists.specs.Writing.{write}

module _ (text old : List ℕ) where
  -- the bytes written, or that the buffer is short
  unfoldable pub printed : Option ℕ
  printed = cond (leb (length text) (length old)) (Some (length text)) None

  -- the buffer with the text, or as it was
  unfoldable pub with_text : List ℕ
  with_text = cond (leb (length text) (length old)) (write old 0 text) old
