-- Laws of parts put: with room and without, and one behind the other.
use mathlib.Core.Path.{◌≡◌, refl, sym, ap, ◌∙◌}
use mathlib.Core.Bool.{Bool, true, false, cond}
use mathlib.Core.List.{List, [], ◌++◌}
use Prim.Native.Nat.{ℕ, ◌+◌, ◌*◌, ◌≤◌, ◌<◌}
use native.Mathlib.Omega.{arith}
use native.Mathlib.Nat.{add-zero}
use native.Mathlib.Numerals.{add-one}
use borrow.Author.Tests.{le-leb, lt-leb}
use lib.Dec.{leb}
use lib.ListN.{length, length-append, take}
use lib.Seq.{take_at}
use Rattle.lists.specs.Rows.{each}
use Rattle.lists.specs.Writing.{write}
use Rattle.lists.proofs.WritingLaws.{length_write, write_none, write_more}
use Rattle.put.specs.declared.Page.{Page}
use Rattle.put.specs.Put.{placed, put, Adds, Puts}

-- ---- a part with room for it, and one without

module _ (old : List ℕ) (at : ℕ) (part : List ℕ) where
  pub put_whole : (next : ℕ) (new : List ℕ) → at + length part ≤ length old → next ≡ at + length part → new ≡ write old at part
      → (next ≡ placed old at part) × (new ≡ put old at part)
  unfolding placed put
  put_whole next new h n w = (rw (le-leb _ _ h) n, rw (le-leb _ _ h) w)

  pub put_not : length old < at + length part → (at ≡ placed old at part) × (old ≡ put old at part)
  unfolding placed put
  put_not h = (rw (lt-leb _ _ h), rw (lt-leb _ _ h))

  -- an empty part changes nothing
  pub put_empty : part ≡ [] → (at ≡ placed old at part) × (old ≡ put old at part)
  unfolding placed put
  put_empty e = rw e (go (leb (at + 0) (length old)))
    where
      go : (b : Bool) → (at ≡ cond b (at + 0) at) × (old ≡ cond b (write old at []) old)
      go true = (sym (add-zero at), write_none old at)
      go false = (refl, refl)

-- the same of a buffer and its place
module _ (old : Page) (part : List ℕ) where
  pub adds_whole : (new : Page) → old.end + length part ≤ length old.out.now → new.out.ghost_name ≡ old.out.ghost_name
      → new.end ≡ old.end + length part → new.out.now ≡ write old.out.now old.end part → Adds old new part
  adds_whole new h same n w =
      let (end, out) = put_whole old.out.now old.end part new.end new.out.now h n w in
      record { same_reference = same; end = end; out = out }

  pub adds_not : length old.out.now < old.end + length part → Adds old old part
  adds_not h =
      let (end, out) = put_not old.out.now old.end part h in
      record { same_reference = refl; end = end; out = out }

  pub adds_empty : part ≡ [] → Adds old old part
  adds_empty e =
      let (end, out) = put_empty old.out.now old.end part e in
      record { same_reference = refl; end = end; out = out }

-- where there is room for so many bytes, a part that has no more is put
pub put_within : {most : ℕ} {old new : Page} {part : List ℕ} → Adds old new part → length part ≤ most
    → old.end + most ≤ length old.out.now → Puts most old new part
unfolding placed put
put_within {old = old} {part = part} a s h =
    let t = le-leb (old.end + length part) (length old.out.now) (omega arith) in
    record { same_reference = a.same_reference; short = s; end = a.end ∙ rw t; out = a.out ∙ rw t }

-- where there is room for the part, it is put
pub put_fits : {old new : Page} {part : List ℕ} → Adds old new part → old.end + length part ≤ length old.out.now
    → Puts (length part) old new part
put_fits a h = put_within a (omega arith) h

-- where there is none, nothing is
pub put_without : {old new : Page} {part : List ℕ} → Adds old new part → length old.out.now < old.end + length part
    → (new.end ≡ old.end) × (new.out.now ≡ old.out.now)
unfolding placed put
put_without {old = old} {part = part} a h =
    let t = lt-leb (old.end + length part) (length old.out.now) h in
    (a.end ∙ rw t, a.out ∙ rw t)

-- ---- one behind the other

pub put_none : (old : Page) → Puts 0 old old []
put_none old = record {
  same_reference = refl;
  short = omega arith;
  end = sym (add-zero old.end);
  out = write_none old.out.now old.end;
}

module _ {most : ℕ} {old new : Page} {part : List ℕ} where
  pub put_length : Puts most old new part → old.end + most ≤ length old.out.now → length new.out.now ≡ length old.out.now
  put_length p h = ap length p.out ∙ length_write old.out.now old.end part (omega (arith, p.short))

  -- the room that is left behind it
  pub put_room : (more : ℕ) → Puts most old new part → old.end + (most + more) ≤ length old.out.now → new.end + more ≤ length new.out.now
  put_room more p h = omega (arith, p.end, p.short, put_length p (omega arith))

  -- a larger bound
  pub put_most : {k : ℕ} → Puts most old new part → most ≤ k → Puts k old new part
  put_most p h = record { same_reference = p.same_reference; short = omega (arith, p.short); end = p.end; out = p.out }

  -- the part's own length
  pub put_own : Puts most old new part → Puts (length part) old new part
  put_own p = record { same_reference = p.same_reference; short = omega arith; end = p.end; out = p.out }

  -- a part and then the next one behind it
  pub put_then : {more : ℕ} {last : Page} {q : List ℕ} → Puts most old new part → Puts more new last q
      → old.end + (most + more) ≤ length old.out.now → Puts (most + more) old last (part ++ q)
  put_then {more} {last} {q} a b h = record {
    same_reference = b.same_reference ∙ a.same_reference;
    short = rw length-append (omega (arith, a.short, b.short));
    end = rw length-append (omega (arith, a.end, b.end));
    out = b.out ∙ rw (a.out, a.end) (write_more old.out.now old.end part q (omega (arith, a.short, b.short)));
  }

-- a row of parts of at most k bytes each
module _ (k : ℕ) (f : ℕ → List ℕ) (old : Page) where
  pub row_none : Puts (0 * k) old old (each 0 f)
  unfolding each
  row_none = put_most (put_none old) (omega arith)

  pub row_next : (i : ℕ) {mid new : Page} → Puts (i * k) old mid (each i f) → Puts k mid new (f i)
      → old.end + (i * k + k) ≤ length old.out.now → Puts ((i + 1) * k) old new (each (i + 1) f)
  unfolding each
  row_next i a b h =
      let e : i * k + k ≡ (i + 1) * k = omega arith in
      rw (← e, add-one i) (put_then a b h)

module _ {most : ℕ} {old new : Page} {part : List ℕ} (p : Puts most old new part) (front : old.end ≡ 0) where
  -- what was put at the front is the front
  pub put_front : take new.end new.out.now ≡ part
  put_front =
      let e : length part ≡ new.end = omega (arith, p.end) in
      rw (p.out, front) (take_at part _ new.end e)

  pub front_length : new.end ≡ length (take new.end new.out.now)
  front_length = omega (arith, p.end, ap length put_front)

-- what a lent buffer is at last, where a page still holds it: the second fact is left to `search`, which knows it by `same_reference`
pub kept : {x y z : List ℕ} → y ≡ z → x ≡ y → x ≡ z
kept e h = h ∙ e
