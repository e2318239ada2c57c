-- Laws of comments: one line's, and those of the lines that are left.
use mathlib.Core.Path.{◌≡◌, sym, ap, ◌∙◌}
use mathlib.Core.Bool.{true, false, cond}
use mathlib.Core.Logic.{◌⊎◌, inl, inr}
use mathlib.Core.List.{List, [], ◌∷◌, ◌++◌}
use Prim.Native.Nat.{ℕ, ◌+◌, ◌-◌, ◌≤◌, ◌<◌}
use native.Mathlib.Omega.{arith}
use borrow.Author.Tests.{leb-true, leb-false, le-leb, lt-leb}
use lib.Dec.{leb}
use lib.ListN.{length, length-append}
use Rattle.lists.specs.Writing.{write}
use Rattle.lists.proofs.Logic.{split}
use Rattle.lists.proofs.WritingLaws.{write_none, write_more}
use Rattle.scan.specs.Lines.{Row}
use Rattle.put.specs.declared.Page.{Page}
use Rattle.put.specs.Put.{Puts}
use Rattle.put.proofs.PutLaws.{put_own, put_length}
use Rattle.program.specs.ProgramLine.{is_lemmas, is_comment}
use Rattle.text.specs.Bytes.{lf}
use Rattle.text.specs.Comments.{remark, remarks}

-- ---- one line

module _ (line : List ℕ) where
  pub remark_is : is_comment line ≡ true → remark line ≡ (99 ∷ 32 ∷ []) ++ line ++ (lf ∷ [])
  unfolding remark
  remark_is h = rw h

  pub remark_not : is_comment line ≡ false → remark line ≡ []
  unfolding remark
  remark_not h = rw h

  pub remark_long : is_comment line ≡ true → length (remark line) ≡ length line + 3
  remark_long h = ap length (remark_is h) ∙ simp length-append (omega arith)

  pub remark_counted : length (remark line) ≡ cond (is_comment line) (length line + 3) 0
  remark_counted = go (split (is_comment line))
    where
      go : (is_comment line ≡ true) ⊎ (is_comment line ≡ false) → length (remark line) ≡ cond (is_comment line) (length line + 3) 0
      go (inl h) = rw h (remark_long h)
      go (inr h) = rw h (ap length (remark_not h))

-- ---- the lines that are left

-- a sum fits where its first part does and the second fits behind it
fits_behind : (a b room : ℕ) → a ≤ room → leb (a + b) room ≡ leb b (room - a)
fits_behind a b room h = go (split (leb b (room - a)))
  where
    go : (leb b (room - a) ≡ true) ⊎ (leb b (room - a) ≡ false) → leb (a + b) room ≡ leb b (room - a)
    go (inl e) = le-leb (a + b) room (omega (arith, leb-true b (room - a) e)) ∙ sym e
    go (inr e) = lt-leb (a + b) room (omega (arith, leb-false b (room - a) e)) ∙ sym e

-- nothing is left
pub done : (whole part : List ℕ) {old page : Page} → part ≡ [] → page.out.ghost_name ≡ old.out.ghost_name
    → page.end + length part ≡ old.end + length whole → write page.out.now page.end part ≡ write old.out.now old.end whole
    → Puts (length whole) old page whole
done whole part {page = page} e same n w = record {
  same_reference = same;
  short = omega arith;
  end = omega (arith, ap length e);
  out = write_none page.out.now page.end ∙ ap (write page.out.now page.end) (sym e) ∙ w;
}

module _ (r : Row) (rs : List Row) where
  pub left_lemmas : is_lemmas r.bytes ≡ true → remarks (r ∷ rs) ≡ []
  unfolding remarks
  left_lemmas l = rw l

  pub left_next : is_lemmas r.bytes ≡ false → remarks (r ∷ rs) ≡ remark r.bytes ++ remarks rs
  unfolding remarks
  left_next l = rw l

  pub line_within : (room end : ℕ) → is_lemmas r.bytes ≡ false → end + length (remarks (r ∷ rs)) ≤ room
      → end + length (remark r.bytes) ≤ room
  line_within room end l h = omega (arith, ap length (left_next l) ∙ length-append (remark r.bytes) (remarks rs))

  -- whether they fit into a room
  pub fit_next : (room : ℕ) → is_lemmas r.bytes ≡ false → length (remark r.bytes) ≤ room
      → leb (length (remarks rs)) (room - length (remark r.bytes)) ≡ leb (length (remarks (r ∷ rs))) room
  fit_next room l h =
      sym (ap (λ s. leb (length s) room) (left_next l)
      ∙ rw length-append (fits_behind (length (remark r.bytes)) (length (remarks rs)) room h))

  pub fit_not : (room : ℕ) → is_lemmas r.bytes ≡ false → room < length (remark r.bytes) → false ≡ leb (length (remarks (r ∷ rs))) room
  fit_not room l h = sym (ap (λ s. leb (length s) room) (left_next l)
      ∙ rw length-append (lt-leb (length (remark r.bytes) + length (remarks rs)) room (omega arith)))

  -- what is left goes behind the line's own
  pub write_next : {most : ℕ} {page new : Page} → is_lemmas r.bytes ≡ false → Puts most page new (remark r.bytes)
      → page.end + length (remarks (r ∷ rs)) ≤ length page.out.now
      → (new.end + length (remarks rs) ≡ page.end + length (remarks (r ∷ rs)))
      × (write new.out.now new.end (remarks rs) ≡ write page.out.now page.end (remarks (r ∷ rs)))
      × (length new.out.now ≡ length page.out.now)
  write_next {most} {page} {new} l p h =
      let n : length (remarks (r ∷ rs)) ≡ length (remark r.bytes) + length (remarks rs) = ap length (left_next l)
      ∙ length-append (remark r.bytes) (remarks rs) in (
        omega (arith, p.end),
        rw (p.out, p.end, left_next l) (write_more page.out.now page.end (remark r.bytes) (remarks rs) (omega arith)),
        put_length (put_own p) (omega arith),
      )
