-- Laws of a text that goes into a buffer whole or not at all.
use mathlib.Core.Path.{◌≡◌}
use mathlib.Core.Bool.{true, false}
use mathlib.Core.Logic.{◌⊎◌, inl, inr}
use mathlib.Core.List.{List}
use Prim.Native.Nat.{ℕ, ◌≤◌, ◌<◌}
use borrow.Author.Tests.{leb-true, le-leb, lt-leb}
use native.Mathlib.Omega.{arith}
use lib.Dec.{leb}
use lib.ListN.{length}
use Rattle.lists.specs.Writing.{write}
use Rattle.lists.proofs.Logic.{split}
use Rattle.std.proofs.Common.{Some, None}
use Rattle.text.specs.Whole.{printed, with_text}

module _ (text old : List ℕ) where
  pub too_long : length old < length text → (None ≡ printed text old) × (old ≡ with_text text old)
  unfolding printed with_text
  too_long h = (rw (lt-leb _ _ h), rw (lt-leb _ _ h))

  pub given_whole : (n : ℕ) (new : List ℕ) → n ≡ length text → length text ≤ length old → new ≡ write old 0 text
      → (Some n ≡ printed text old) × (new ≡ with_text text old)
  unfolding printed with_text
  given_whole n new e h w = (rw (le-leb _ _ h, e), rw (le-leb _ _ h) w)

  -- what is written lies in the buffer
  pub printed_within : (n : ℕ) → Some n ≡ printed text old → n ≤ length old
  unfolding printed
  printed_within n e = go (split (leb (length text) (length old)))
    where
      go : (leb (length text) (length old) ≡ true) ⊎ (leb (length text) (length old) ≡ false) → n ≤ length old
      go (inl t) = let k : Some n ≡ Some (length text) = rw t at e in let i : n ≡ length text = cc in
          omega (arith, leb-true (length text) (length old) t)
      go (inr t) = let k : Some n ≡ None = rw t at e in let z : ◌≡◌ {A = ℕ} 0 1 = cc in absurd (omega arith)
