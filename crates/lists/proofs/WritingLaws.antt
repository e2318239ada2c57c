-- Laws of writing: its length, one more element behind or before a part, two parts as one, and rows written one behind the other.
use mathlib.Core.Path.{◌≡◌, refl, sym, ap, ◌∙◌}
use mathlib.Core.List.{List, [], ◌∷◌, ◌++◌, append_assoc, append-nil}
use Prim.Native.Nat.{ℕ, zero, suc, ◌+◌, ◌≤◌, ◌<◌}
use native.Mathlib.Omega.{arith}
use native.Mathlib.Nat.{add_assoc, add-zero}
use native.Mathlib.Numerals.{add-one}
use native.Mathlib.Decide.{ℕ_discrete}
use lib.ListN.{length, get_or, take, drop, set, length-append, length-take, length-drop, take-append-drop}
use lib.Seq.{length-take-le, take_at, drop-cons, drop-drop, drop-append-add, set_at, set_split, append_snoc}
use lib.Seq.{get_or_at}
use Rattle.lists.specs.Rows.{each, tab, num}
use Rattle.lists.specs.Writing.{write}
use Rattle.lists.proofs.RowLaws.{length_tab}

module _ {T : Type 0} (l : List T) (at : ℕ) where
  pub length_write : (p : List T) → at + length p ≤ length l → length (write l at p) ≡ length l
  length_write p h = simp (length-append, length-take, length-drop) (omega arith)

  pub write_none : l ≡ write l at []
  write_none = sym (rw (add-zero, append-nil) (take-append-drop at l))

  -- a part and one element behind it
  pub write_end : (p : List T) (x : T) → at + length p < length l → set (write l at p) (at + length p) x ≡ write l at (p ++ (x ∷ []))
  write_end p x h =
      let k : length (take at l ++ p) ≡ at + length p = rw (length-append, length-take-le at l (omega arith)) refl in
      let n : at + length (p ++ (x ∷ [])) ≡ suc (at + length p) = rw length-append (omega arith) in
      rw (drop-cons l (at + length p) x h, set_at (take at l ++ p) _ (drop (suc (at + length p)) l) x (at + length p) k, n)
      (simp append_assoc)

  -- a part and then the next part behind it: the two as one part
  pub write_more : (p q : List T) → at + length p + length q ≤ length l → write (write l at p) (at + length p) q ≡ write l at (p ++ q)
  write_more p q h =
      let m = take at l ++ p in
      let n : length m ≡ at + length p = length-append (take at l) p ∙ ap (λ k. k + length p) (length-take-le at l (omega arith)) in
      let d : drop (at + length p + length q) (m ++ drop (at + length p) l) ≡ drop (at + length (p ++ q)) l =
      ap (λ k. drop (k + length q) (m ++ drop (at + length p) l)) (sym n)
      ∙ drop-append-add m _ (length q)
      ∙ drop-drop (length q) (at + length p) l
      ∙ ap (λ k. drop k l) (add_assoc at (length p) (length q) ∙ ap (λ k. at + k) (sym (length-append p q))) in
      rw (take_at m (drop (at + length p) l) (at + length p) n, d) (simp append_assoc)

  -- ---- one element

  pub write_one : (x : T) → at < length l → set l at x ≡ write l at (x ∷ [])
  write_one x h = set_split l at x h ∙ sym (append_snoc (take at l) x (drop (suc at) l)) ∙ rw (add-one at)

  -- ---- a row, element by element

  pub row_begins : (f : ℕ → T) → l ≡ write l at (tab 0 f)
  unfolding each
  row_begins f = write_none

  pub row_grows : (i : ℕ) (f : ℕ → T) (x : T) → x ≡ f i → at + i < length l → set (write l at (tab i f)) (at + i) x
      ≡ write l at (tab (i + 1) f)
  unfolding each
  row_grows i f x e h =
      let k = length_tab i f in
      let s : at + length (tab i f) ≡ at + i = ap (λ j. at + j) k in
      ap (λ j. set (write l at (tab i f)) j x) (sym s) ∙ write_end (tab i f) x (omega arith) ∙ rw (add-one i, e)

  -- ---- a row of parts

  pub parts_begin : (g : ℕ → List T) → l ≡ write l at (each 0 g)
  unfolding each
  parts_begin g = write_none

  pub parts_grow : (i : ℕ) (g : ℕ → List T) → at + length (each i g) + length (g i) ≤ length l
      → write (write l at (each i g)) (at + length (each i g)) (g i) ≡ write l at (each (i + 1) g)
  unfolding each
  parts_grow i g h = write_more (each i g) (g i) h ∙ rw (add-one i)

-- ---- the room that a row of parts takes

module _ {T : Type 0} (g : ℕ → List T) where
  pub parts_none : length (each 0 g) ≡ 0
  unfolding each
  parts_none = refl

  pub parts_next : (i : ℕ) → length (each (i + 1) g) ≡ length (each i g) + length (g i)
  unfolding each
  parts_next i = rw (add-one i) (length-append (each i g) (g i))

  pub parts_room : (n i : ℕ) → i < n → length (each i g) + length (g i) ≤ length (each n g)
  unfolding each
  parts_room zero i l = absurd (omega arith)
  parts_room (suc n) i l = rw length-append (go (ℕ_discrete i n) (parts_room n i))
    where
      go : Dec (i ≡ n) → (i < n → length (each i g) + length (g i) ≤ length (each n g)) → length (each i g) + length (g i) ≤ length
          (each n g) + length (g n)
      go (yes e) f = rw e (omega arith)
      go (no e) f = let k = f (omega arith) in omega arith

-- ---- a loop that writes part behind part: l as it was, now as it is, to the place behind the parts so far

module _ {T : Type 0} (l now : List T) (at to i n : ℕ) (g : ℕ → List T) (part : List T)
    (more : i < n) (room : at + length (each n g) ≤ length l) (place : to ≡ at + length (each i g)) (next : g i ≡ part) where
  pub part_room : to + length part ≤ length l
  part_room = let k = parts_room g n i more in let e = ap length next in omega arith

  pub part_place : to + length part ≡ at + length (each (i + 1) g)
  part_place = let k = parts_next g i in let e = ap length next in omega arith

  pub part_grows : now ≡ write l at (each i g) → (l' : List T) → l' ≡ write now to part → l' ≡ write l at (each (i + 1) g)
  part_grows before l' e =
      let k = parts_room g n i more in
      e ∙ ap (λ x. write x to part) before ∙ ap (λ k. write (write l at (each i g)) k part) place
      ∙ ap (λ part. write (write l at (each i g)) (at + length (each i g)) part) (sym next)
      ∙ parts_grow l at i g (omega arith)

-- ---- a row over the first places of a list, and the rest kept

pub front_none : (f : ℕ → ℕ) (l : List ℕ) → l ≡ tab 0 f ++ drop 0 l
unfolding each
front_none f l = refl

module _ (f : ℕ → ℕ) (l : List ℕ) (i : ℕ) (h : i < length l) where
  -- one place more of the row
  front_more : (v : ℕ) → v ≡ f i → tab i f ++ v ∷ drop (suc i) l ≡ tab (i + 1) f ++ drop (i + 1) l
  unfolding each
  front_more v e = rw (add-one i, e) (sym (append_snoc (tab i f) (f i) (drop (suc i) l)))

  pub front_put : (v : ℕ) → v ≡ f i → set (tab i f ++ drop i l) i v ≡ tab (i + 1) f ++ drop (i + 1) l
  front_put v e = rw (drop-cons l i 0 h) (set_at (tab i f) (get_or l i 0) (drop (suc i) l) v i (length_tab i f) ∙ front_more v e)

  pub front_keep : num l i ≡ f i → tab i f ++ drop i l ≡ tab (i + 1) f ++ drop (i + 1) l
  front_keep e = ap (λ (r : List ℕ). tab i f ++ r) (drop-cons l i 0 h) ∙ front_more (num l i) e

  -- behind the row the list is as it was
  pub front_next : num (tab i f ++ drop i l) i ≡ num l i
  front_next = rw (drop-cons l i 0 h) (get_or_at (tab i f) (get_or l i 0) (drop (suc i) l) 0 i (length_tab i f))
