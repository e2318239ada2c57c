-- Laws of the working buffer: marks turned into values, one byte after the other.
use mathlib.Core.Path.{◌≡◌, sym, ap, ◌∙◌}
use borrow.Author.Tests.{eq-eqb, ne_eqb}
use lib.Dec.{eqb}
use mathlib.Core.List.{List}
use Prim.Native.Nat.{ℕ, ◌+◌, ◌<◌}
use lib.ListN.{length, set}
use Rattle.lists.specs.Rows.{num}
use Rattle.lists.proofs.WritingLaws.{front_put, front_keep, front_next}
use Rattle.lists.proofs.PlaceLaws.{first_none, first_found}
use Rattle.reply.specs.Reply.{truth, missing}
use Rattle.reply.specs.Answers.{cleaned}

-- the first i marks of w₀ are turned, and w is what the buffer holds then

module _ (w₀ w : List ℕ) (i : ℕ) (h : i < length w₀) (row : w ≡ cleaned i w₀) where
  same_mark : num w i ≡ num w₀ i
  same_mark = rw row (front_next (λ x. truth (num w₀ x)) w₀ i h)

  pub now_false : (num w i ≡ 1 → ⊥) → (w' : List ℕ) → w' ≡ set w i 0 → w' ≡ cleaned (i + 1) w₀
  now_false k w' e =
      let zero : 0 ≡ truth (num w₀ i) = rw (ne_eqb (num w₀ i) 1 (λ x. k (same_mark ∙ x))) in
      e ∙ ap (λ (l : List ℕ). set l i 0) row ∙ front_put (λ x. truth (num w₀ x)) w₀ i h 0 zero

  pub now_true : num w i ≡ 1 → (w' : List ℕ) → w' ≡ w → w' ≡ cleaned (i + 1) w₀
  now_true k w' e =
      let is : num w₀ i ≡ 1 = sym same_mark ∙ k in
      let one : num w₀ i ≡ truth (num w₀ i) = is ∙ sym (rw (eq-eqb (num w₀ i) 1 is)) in
      e ∙ row ∙ front_keep (λ x. truth (num w₀ x)) w₀ i h one

  pub none_missing : missing i (num w₀) ≡ i → (num w i ≡ 0 → ⊥) → missing (i + 1) (num w₀) ≡ i + 1
  none_missing e k = first_none (λ x. eqb (num w₀ x) 0) i e (ne_eqb (num w₀ i) 0 (λ x. k (same_mark ∙ x)))

  pub one_missing : (n : ℕ) → i < n → missing i (num w₀) ≡ i → num w i ≡ 0 → i ≡ missing n (num w₀)
  one_missing n l e k = sym (first_found (λ x. eqb (num w₀ x) 0) i n e (eq-eqb (num w₀ i) 0 (sym same_mark ∙ k)) l)
