-- The literals that a reply lists are heard at N exactly when their numbers are at most N and none comes twice.
use mathlib.Core.Path.{◌≡◌, refl}
use mathlib.Core.Bool.{true, false, not, true≢false}
use mathlib.Core.Logic.{◌⊎◌, inl, inr}
use mathlib.Core.List.{List, [], ◌∷◌}
use Prim.Native.Nat.{ℕ, ◌≤◌, ◌<◌}
use native.Mathlib.Omega.{arith}
use native.Mathlib.Decide.{ℕ_discrete}
use borrow.Author.Tests.{eqb-true}
use lib.Dec.{eqb}
use Rattle.lists.proofs.Logic.{split}
use Rattle.job.specs.declared.Literal.{Literal}
use Rattle.job.specs.Literals.{place}
use Rattle.job.specs.InRange.{Below}
use Rattle.tokens.specs.Numbers.{max_number}
use Rattle.reply.specs.Said.{says, literals}
use Rattle.reply.specs.Reply.{whole, heard_in}
use Rattle.reply.specs.Acceptance.{unchecked, Lists, times}
use Rattle.reply.proofs.FormLaws.{heard_kept}
use Rattle.reply.proofs.ListedLaws.{AnySeen, seen, times_other, times_more}

pub record Distinct (N : ℕ) (ls : List Literal) : Type 0 where
  pub none_past : Below N ls
  pub none_twice : (x : ℕ) → times x ls ≤ 1

module _ (N : ℕ) where
  times_tail : (y : ℕ) (l : Literal) (ls : List Literal) → times y (l ∷ ls) ≤ 1 → times y ls ≤ 1
  times_tail y l ls h = go (ℕ_discrete y (place l))
    where
      go : Dec (y ≡ place l) → times y ls ≤ 1
      go (yes e) = omega (arith, h, times_more y l ls e)
      go (no ne) = omega (arith, h, times_other y l ls ne)

  tail_distinct : (l : Literal) (ls : List Literal) → Distinct N (l ∷ ls) → Distinct N ls
  tail_distinct l ls d = record { none_past = d.none_past.1; none_twice = λ y. times_tail y l ls (d.none_twice y) }

  -- a number that is not said yet makes them one more
  one_more : (l : Literal) (ls : List Literal) → place l < N → says ls (place l) ≡ 0 → Distinct N ls → Distinct N (l ∷ ls)
  one_more l ls h e d = record { none_past = (h, d.none_past); none_twice = λ y. go y (ℕ_discrete y (place l)) }
    where
      not_yet : AnySeen (place l) ls → times (place l) ls ≡ 0
      not_yet (inl s) = s.often
      not_yet (inr (inl s)) = absurd (omega (arith, e, s.said))
      not_yet (inr (inr s)) = absurd (omega (arith, e, s.said))

      go : (y : ℕ) → Dec (y ≡ place l) → times y (l ∷ ls) ≤ 1
      go y (yes q) = rw q (omega (arith, times_more (place l) l ls refl, not_yet (seen (place l) ls (d.none_twice (place l)))))
      go y (no ne) = omega (arith, times_other y l ls ne, d.none_twice y)

  -- the number of the first one is not said by the others
  new_first : (l : Literal) (ls : List Literal) → Distinct N (l ∷ ls) → says ls (place l) ≡ 0
  new_first l ls d = go (seen (place l) ls (times_tail (place l) l ls (d.none_twice (place l))))
    where
      go : AnySeen (place l) ls → says ls (place l) ≡ 0
      go (inl s) = s.said
      go (inr (inl s)) = absurd (omega (arith, d.none_twice (place l), times_more (place l) l ls refl, s.often))
      go (inr (inr s)) = absurd (omega (arith, d.none_twice (place l), times_more (place l) l ls refl, s.often))

  -- ---- heard at N, and listed

  module _ (reply : List ℕ) (ls : List Literal) where
    pub listed_heard : Lists reply ls → Distinct N ls → heard_in literals N [] reply ≡ whole ls
    listed_heard e d = (heard_kept unchecked literals max_number N (Distinct N) takes [] ls reply e d).1
      where
        takes : (m : List Literal) (l : Literal) → place l < max_number → false ≡ false → Distinct N (l ∷ m)
            → Distinct N m × (place l < N) × (not (eqb (says m (place l)) 0) ≡ false) × (l ∷ m ≡ l ∷ m)
        takes m l h new g = (tail_distinct l m g, g.none_past.0, rw (new_first l m g), refl)

    -- from the end back to the start: if what was heard up to here is distinct, so is all of it
    pub heard_listed : N ≤ max_number → heard_in literals N [] reply ≡ whole ls → Lists reply ls × Distinct N ls
    unfolding times
    heard_listed most e =
        let (d, same) = heard_kept literals unchecked N max_number (λ m. Distinct N m → Distinct N ls) takes [] ls reply e (λ d. d) in
        (same, d (record { none_past = tt; none_twice = λ x. omega arith }))
      where
        unsaid : (m : List Literal) (x : ℕ) → not (eqb (says m x) 0) ≡ false → says m x ≡ 0
        unsaid m x h = go (split (eqb (says m x) 0))
          where
            go : (eqb (says m x) 0 ≡ true) ⊎ (eqb (says m x) 0 ≡ false) → says m x ≡ 0
            go (inl q) = eqb-true (says m x) 0 q
            go (inr q) = let z : true ≡ false = rw q at h in absurd (true≢false z)

        takes : (m : List Literal) (l : Literal) → place l < N → not (eqb (says m (place l)) 0) ≡ false
            → (Distinct N (l ∷ m) → Distinct N ls)
            → (Distinct N m → Distinct N ls) × (place l < max_number) × (false ≡ false) × (l ∷ m ≡ l ∷ m)
        takes m l h new g = (λ d. g (one_more l m h (unsaid m (place l) new) d), omega arith, refl, refl)
