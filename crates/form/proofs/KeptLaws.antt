-- The kept lines of a text: each is a line of it, and behind them `lemmas` ends what is kept.
use mathlib.Core.Path.{◌≡◌, refl, ap, ◌∙◌}
use mathlib.Core.Bool.{Bool, true, false, cond}
use mathlib.Core.Logic.{inl, inr}
use mathlib.Core.List.{List, [], ◌∷◌, ◌++◌}
use Prim.Native.Nat.{ℕ}
use Rattle.lists.specs.Pieces.{starts}
use Rattle.order.specs.Sorting.{In}
use Rattle.scan.specs.Lines.{Row, row}
use Rattle.program.specs.ProgramLine.{is_lemmas, is_comment}
use Rattle.form.specs.Form.{kept, lemmas_word}
use Rattle.form.proofs.WrittenLaws.{as_rows}

-- the lines of a text that begins with kept lines and goes on with lemma lines
abbrev pub joined : List (List ℕ) → List Row → List Row
joined front tail = as_rows front ++ (row lemmas_word true ∷ tail)

pub is_lemmas_lem : is_lemmas lemmas_word ≡ true
unfolding is_lemmas starts
is_lemmas_lem = refl

module _ (l : Row) (ls : List Row) where
  pub kept_lemmas : is_lemmas l.bytes ≡ true → kept (l ∷ ls) ≡ []
  unfolding kept
  kept_lemmas e = rw e

  pub kept_comment : is_lemmas l.bytes ≡ false → is_comment l.bytes ≡ true → kept (l ∷ ls) ≡ kept ls
  unfolding kept
  kept_comment e f = rw (e, f)

  pub kept_line : is_lemmas l.bytes ≡ false → is_comment l.bytes ≡ false → kept (l ∷ ls) ≡ l.bytes ∷ kept ls
  unfolding kept
  kept_line e f = rw (e, f)

pub kept_again : (ls tail : List Row) → kept (joined (kept ls) tail) ≡ kept ls
unfolding kept
kept_again [] tail = kept_lemmas (row lemmas_word true) tail is_lemmas_lem
kept_again (l ∷ ls) tail = go (is_lemmas l.bytes) (is_comment l.bytes) refl refl (kept_again ls tail)
  where
    go : (a b : Bool) → is_lemmas l.bytes ≡ a → is_comment l.bytes ≡ b → kept (joined (kept ls) tail) ≡ kept ls
        → kept (joined (cond a [] (cond b (kept ls) (l.bytes ∷ kept ls))) tail) ≡ cond a [] (cond b (kept ls) (l.bytes ∷ kept ls))
    go true b p q h = kept_lemmas (row lemmas_word true) tail is_lemmas_lem
    go false true p q h = h
    go false false p q h = kept_line (row l.bytes true) (joined (kept ls) tail) p q ∙ ap (λ x. l.bytes ∷ x) h

pub kept_in : (ls : List Row) (s : List ℕ) → In s (kept ls) → (l : Row) × In l ls × (s ≡ l.bytes)
unfolding kept
kept_in [] s i = absurd i
kept_in (l ∷ ls) s i = go (is_lemmas l.bytes) (is_comment l.bytes) i (kept_in ls s)
  where
    later : (k : Row) × In k ls × (s ≡ k.bytes) → (k : Row) × In k (l ∷ ls) × (s ≡ k.bytes)
    later (k, j, e) = (k, inr j, e)

    go : (a b : Bool) → In s (cond a [] (cond b (kept ls) (l.bytes ∷ kept ls))) → (In s (kept ls) → (k : Row) × In k ls × (s ≡ k.bytes))
        → (k : Row) × In k (l ∷ ls) × (s ≡ k.bytes)
    go true b i f = absurd i
    go false true i f = later (f i)
    go false false (inl e) f = (l, inl refl, e)
    go false false (inr i) f = later (f i)
