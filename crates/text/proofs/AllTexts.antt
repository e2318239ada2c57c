-- Texts that all go into a buffer, and the text of numbers: in two parts it is the text of each.
use mathlib.Core.Path.{◌≡◌, refl, sym, ap, ◌∙◌}
use mathlib.Core.Bool.{Bool}
use mathlib.Core.List.{List, [], ◌∷◌, ◌++◌, append_assoc, append-nil}
use Prim.Native.Nat.{ℕ, zero, suc, ◌+◌, ◌≤◌}
use native.Mathlib.Omega.{arith}
use borrow.Author.Tests.{le-leb}
use lib.Dec.{leb}
use lib.IntN.{ℤ}
use lib.ListN.{length, length-append}
use Rattle.lists.specs.Rows.{each}
use Rattle.lists.specs.Writing.{write}
use Rattle.lists.proofs.TestLaws.{all_of}
use Rattle.lists.proofs.PlaceLaws.{row_all}
use Rattle.lists.proofs.WritingLaws.{parts_room}
use Rattle.text.specs.declared.Texted.{Texted}
use Rattle.text.specs.Texts.{fitting, texted, with_texts}
use Rattle.text.specs.Dimacs.{told, number_text, numbers_text}

-- ---- all of n texts

module _ (n : ℕ) (text : ℕ → List ℕ) (old : List ℕ) (room : length (each n text) ≤ length old) where
  longer : (i : ℕ) → length (each (suc i) text) ≡ length (each i text) + length (text i)
  unfolding each
  longer i = length-append (each i text) (text i)

  all_fit : fitting n text (length old) ≡ n
  unfolding fitting
  all_fit =
      let fits : ℕ → Bool = λ i. leb (length (each (suc i) text)) (length old) in
      row_all fits n
      (all_of fits n λ i l. le-leb (length (each (suc i) text)) (length old) (omega (arith, longer i, parts_room text n i l)))

  pub texts_all : (texted n text old ≡ record { count = n; bytes = length (each n text) })
      × (with_texts n text old ≡ write old 0 (each n text))
  unfolding texted with_texts
  texts_all = (rw all_fit, rw all_fit)

-- the same where as many as n were counted
pub texts_counted : (n : ℕ) (text : ℕ → List ℕ) (old new : List ℕ) (t : Texted)
    → (t ≡ texted n text old) × (new ≡ with_texts n text old) → t.count ≡ n
    → (t.bytes ≡ length (each n text)) × (new ≡ write old 0 (each n text))
unfolding texted with_texts
texts_counted n text old new t (e, h) k =
    let all : fitting n text (length old) ≡ n = sym (ap (λ (t : Texted). t.count) e) ∙ k in
    (ap (λ (t : Texted). t.bytes) e ∙ rw all, h ∙ rw all)

-- ---- numbers

-- the first text by itself
each_front : (n : ℕ) (g : ℕ → List ℕ) → each (suc n) g ≡ g 0 ++ each n λ i. g (suc i)
unfolding each
each_front zero g = sym (append-nil (g 0))
each_front (suc n) g = ap (λ l. l ++ g (suc n)) (each_front n g) ∙ append_assoc (g 0) (each n λ i. g (suc i)) (g (suc n))

pub numbers_are : (xs : List ℤ) → each (length xs) (number_text xs) ≡ numbers_text xs
unfolding numbers_text each
numbers_are [] = refl
numbers_are (x ∷ xs) = each_front (length xs) (number_text (x ∷ xs)) ∙ ap (λ l. told x ++ l) (numbers_are xs)

pub numbers_append : (xs ys : List ℤ) → numbers_text (xs ++ ys) ≡ numbers_text xs ++ numbers_text ys
unfolding numbers_text
numbers_append [] ys = refl
numbers_append (x ∷ xs) ys = ap (λ l. told x ++ l) (numbers_append xs ys) ∙ sym (append_assoc (told x) (numbers_text xs) (numbers_text ys))
