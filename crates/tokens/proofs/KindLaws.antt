-- The library's tests of a line are those of the definition.
use Rattle.std.proofs.Common.{◌≡◌, refl, ℕ, Bool, true, false, List, [], ◌∷◌, length, sym, ◌∙◌}
use borrow.Author.Tests.{ne_eqb, eqb-true}
use lib.Dec.{eqb}
use lib.Pointwise.{pointwise}
use Rattle.std.specs.List.{starts_with}
use Rattle.lists.proofs.Logic.{and_left, and_no}
use Rattle.lists.specs.Pieces.{starts, is, up_to}
use Rattle.lists.proofs.PieceLaws.{starts_is, is_equal}

-- ---- what a test answered

module _ (t p : List ℕ) (r b : Bool) (is_b : r ≡ b) where
  pub begins : r ≡ starts_with eqb p t → starts t p ≡ b
  begins e = starts_is t p ∙ sym e ∙ is_b

  pub equals : r ≡ pointwise eqb p t → is t p ≡ b
  equals e = is_equal t p ∙ sym e ∙ is_b

-- ---- a line of values is of no other kind

head_start : (x b : ℕ) (t bs : List ℕ) → (b ≡ x → ⊥) → starts (x ∷ t) (b ∷ bs) ≡ false
unfolding starts
head_start x b t bs n = rw (ne_eqb b x n)

-- `v ` is the beginning of no line of another kind
pub other_start : (x : ℕ) (t p : List ℕ) → (x ≡ 118 → ⊥) → starts (118 ∷ 32 ∷ []) p ≡ true → starts (x ∷ t) p ≡ false
unfolding starts
other_start x t [] n h = refl
other_start x t (b ∷ bs) n h = head_start x b t bs (λ e. n (sym e ∙ eqb-true b 118 (and_left _ _ h)))

pub other_line : (x : ℕ) (t p : List ℕ) → (x ≡ 118 → ⊥) → starts (118 ∷ 32 ∷ []) p ≡ true → is (x ∷ t) p ≡ false
unfolding is
other_line x t p n h = rw (other_start x t p n h) (and_no (eqb (length p) (length (x ∷ t))))

-- a part that begins with the byte has nothing in front of it
pub nothing_before : (k : ℕ) (p : List ℕ) → starts (k ∷ []) p ≡ true → length (up_to k p) ≡ 0
unfolding starts up_to
nothing_before k [] h = refl
nothing_before k (b ∷ bs) h = rw (and_left (eqb b k) (starts [] bs) h)
