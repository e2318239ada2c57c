-- A text that has room goes into its buffer whole, also into a part of it.
use mathlib.Core.Path.{◌≡◌, sym, ap, ◌∙◌}
use mathlib.Core.List.{List, [], ◌++◌, append-nil, append_assoc}
use Prim.Native.Nat.{ℕ, ◌+◌, ◌-◌, ◌≤◌}
use native.Mathlib.Omega.{arith}
use borrow.Author.Tests.{le-leb}
use lib.ListN.{length, take, drop, length-append, length-drop, drop_of_length-le}
use lib.Seq.{take-length, drop-drop}
use Rattle.std.specs.Option.{IsSome, unwrap_or}
use Rattle.std.proofs.Common.{refl, Option, Some, Result, Ok, Err}
use Rattle.job.specs.declared.refusal.Refusal.{Refusal}
use Rattle.lists.specs.Writing.{write}
use Rattle.text.specs.Whole.{printed, with_text}
use Rattle.text.specs.Lines.{refused}
use Rattle.outputs.specs.Printing.{Shows, Prints}

-- a text that has room is put whole
module _ (text old new : List ℕ) (room : length text ≤ length old) (r : Option ℕ)
    (given : (r ≡ printed text old) × (new ≡ with_text text old)) where
  whole : (r ≡ Some (length text)) × (new ≡ write old 0 text)
  unfolding printed with_text
  whole =
      let fits = le-leb (length text) (length old) room in
      (given.0 ∙ rw fits, given.1 ∙ rw fits)

  pub given_some : IsSome r
  given_some = rw whole.0 refl

  pub given_whole : (n : ℕ) → r ≡ Some n → (n ≡ length text) × (new ≡ write old 0 text)
  given_whole n e = (ap (λ o. unwrap_or o 0) (sym e ∙ whole.0), whole.1)

-- what is made, or else the refusal's line, is the text
pub shows_prints : (text old mid new : List ℕ) (n : ℕ) (x : Result ℕ Refusal) → Shows text x old mid → Prints x mid n new
    → (n ≡ length text) × (new ≡ write old 0 text)
shows_prints text old mid new n (Ok k) (size, holds) (count, same) = (count ∙ size, same ∙ holds)
shows_prints text old mid new n (Err r) (line, same) (count, holds) =
    (count ∙ ap length line, holds ∙ ap (λ l. write l 0 (refused r)) same ∙ ap (write old 0) line)

-- a text that was put is another that equals it
pub put_as : (old : List ℕ) {new p q : List ℕ} {n : ℕ} → (n ≡ length p) × (new ≡ write old 0 p) → p ≡ q
    → (n ≡ length q) × (new ≡ write old 0 q)
put_as old (size, holds) e = (size ∙ ap length e, holds ∙ ap (write old 0) e)

-- what is written at the front lies in the buffer
pub written_within : (old new text : List ℕ) (n : ℕ) → n ≡ length text → new ≡ write old 0 text → n ≤ length new
written_within old new text n e h = omega (arith, ap length h ∙ length-append text (drop (0 + length text) old))

-- ---- a text at the front of the part of a buffer that is lent from a place on

module _ (old : List ℕ) (at : ℕ) where
  left_is : take (length old - at) (drop at old) ≡ drop at old
  left_is = ap (λ k. take k (drop at old)) (sym (length-drop at old)) ∙ take-length (drop at old)

  pub part_at : (rest text : List ℕ) → rest ≡ write (take (length old - at) (drop at old)) 0 text
      → take at old ++ (rest ++ drop (length old - at) (drop at old)) ≡ write old at text
  part_at rest text r =
      let none : drop (length old - at) (drop at old) ≡ [] =
      drop_of_length-le (drop at old) {i = length old - at} (omega (arith, length-drop at old)) in
      let n : at + (0 + length text) ≡ at + length text = omega arith in
      let past : drop (0 + length text) (drop at old) ≡ drop (at + length text) old =
      drop-drop (0 + length text) at old ∙ ap (λ k. drop k old) n in
      let front : rest ≡ text ++ drop (at + length text) old = r ∙ ap (λ l. write l 0 text) left_is ∙ ap (λ l. text ++ l) past in
      rw (none, append-nil, front) (sym (append_assoc (take at old) text (drop (at + length text) old)))
