-- The lemmas that are entered are fit: 1 to 64 items of the job each, and every unused place 0.
use mathlib.Core.Path.{◌≡◌, refl, sym, ap, ◌∙◌}
use mathlib.Core.Bool.{Bool, true, false, cond}
use mathlib.Core.List.{List}
use Prim.Native.Nat.{ℕ, zero, suc, ◌+◌, ◌*◌, ◌≤◌, ◌<◌}
use native.Mathlib.Omega.{arith}
use native.Mathlib.Decide.{ℕ_discrete, dec_lt}
use borrow.Author.Tests.{lt-ltb, le-ltb, eq-eqb}
use lib.Dec.{eqb, ltb}
use lib.IntN.{ℤ, pos}
use lib.ListN.{length, get_or, set, replicate, length-set, length-replicate}
use lib.Seq.{get_or-set_same, get_or-set_other}
use Rattle.lists.specs.Rows.{num}
use Rattle.lists.specs.Tests.{within}
use Rattle.lists.proofs.TestLaws.{pass, within_is, all_of}
use Rattle.job.specs.Limits.{max_lemmas, max_names}
use Rattle.job.specs.Fitness.{item_fits, is_zero, place_fits, length_fits, places_fit, lemma_fits, lemmas_fit}
use Rattle.program.proofs.PutLaws.{Put, put_set, same_at}
use Rattle.parse.specs.Lemmas.{signed}

-- place i of lemma k
abbrev place_of : List ℤ → ℕ → ℕ → ℤ
place_of items k i = get_or items (k * max_names + i) (pos 0)

-- ---- whole lemmas

-- count lemmas of w items
pub record Entered (w : ℕ) (lengths : List ℕ) (items : List ℤ) (count : ℕ) : Type 0 where
  pub few : count ≤ max_lemmas
  pub lengths_size : length lengths ≡ max_lemmas
  pub items_size : length items ≡ max_lemmas * max_names
  pub used : (k : ℕ) → k < count → within 1 max_names (num lengths k) ≡ true
  pub unused : (k : ℕ) → count ≤ k → num lengths k ≡ 0
  pub places : (k i : ℕ) → i < max_names → place_fits w (num lengths k) i (place_of items k i) ≡ true

pub none_entered : (w : ℕ) → Entered w (replicate max_lemmas 0) (replicate (max_lemmas * max_names) (pos 0)) 0
unfolding place_fits
none_entered w = record {
  few = omega arith;
  lengths_size = length-replicate {0} {A = ℕ} max_lemmas 0;
  items_size = length-replicate {0} {A = ℤ} (max_lemmas * max_names) (pos 0);
  used = λ k l. absurd (omega arith);
  unused = λ k l. same_at {0} {A = ℕ} max_lemmas k 0;
  places = λ k i l. rw (
    same_at {0} {A = ℕ} max_lemmas k 0,
    same_at {0} {A = ℤ} (max_lemmas * max_names) (k * max_names + i) (pos 0),
    le-ltb i 0 (omega arith),
  ) refl;
}

module _ (w : ℕ) (lengths : List ℕ) (items : List ℤ) (count : ℕ) (E : Entered w lengths items count) where
  pub entered_fits : lemmas_fit lengths items count w ≡ true
  unfolding lemmas_fit lemma_fits length_fits places_fit
  entered_fits = all_of (lemma_fits lengths items count w) max_lemmas λ k l.
      pass _ (sized k (dec_lt k count), (all_of _ max_names (λ i h. E.places k i h), tt))
    where
      sized : (k : ℕ) → Dec (k < count) → cond (ltb k count) (within 1 max_names (num lengths k)) (eqb (num lengths k) 0) ≡ true
      sized k (yes h) = rw (lt-ltb k count h) (E.used k h)
      sized k (no h) = rw (le-ltb k count (omega arith)) (eq-eqb _ 0 (E.unused k (omega arith)))

-- ---- the lemma that is read

-- count lemmas, and n names of the next
pub record Open (w : ℕ) (lengths : List ℕ) (items : List ℤ) (count n : ℕ) : Type 0 where
  pub room : count < max_lemmas
  pub few : n ≤ max_names
  pub lengths_size : length lengths ≡ max_lemmas
  pub items_size : length items ≡ max_lemmas * max_names
  pub used : (k : ℕ) → k < count → within 1 max_names (num lengths k) ≡ true
  pub unused : (k : ℕ) → count ≤ k → num lengths k ≡ 0
  pub places : (k i : ℕ) → (k ≡ count → ⊥) → i < max_names → place_fits w (num lengths k) i (place_of items k i) ≡ true
  pub names : (i : ℕ) → i < n → item_fits w (place_of items count i) ≡ true
  pub left : (i : ℕ) → n ≤ i → i < max_names → is_zero (place_of items count i) ≡ true

pub opened : (w : ℕ) (lengths : List ℕ) (items : List ℤ) (count : ℕ) → Entered w lengths items count → count < max_lemmas
    → Open w lengths items count 0
unfolding place_fits
opened w lengths items count E l = record {
  room = l;
  few = omega arith;
  lengths_size = E.lengths_size;
  items_size = E.items_size;
  used = E.used;
  unused = E.unused;
  places = λ k i n h. E.places k i h;
  names = λ i h. absurd (omega arith);
  left = λ i n h.
      sym (rw (E.unused count (omega arith), le-ltb i 0 (omega arith)) refl)
      ∙ E.places count i h;
}

-- another place of the items
other_place : (k i count n : ℕ) → i < max_names → n < max_names → ((k ≡ count) × (i ≡ n) → ⊥) → k * max_names + i ≡ count * max_names + n
    → ⊥
other_place k i count n a b h e =
    let x : k ≡ count = omega arith in
    let y : i ≡ n = omega arith in
    h (x, y)

module _ (w : ℕ) (lengths : List ℕ) (items : List ℤ) (count n : ℕ) (O : Open w lengths items count n) where
  pub named : (z : ℤ) → n < max_names → item_fits w z ≡ true → Open w lengths (set items (count * max_names + n) z) count (n + 1)
  named z l f =
      let room = O.room in
      let at = count * max_names + n in
      let inside : at < length items = omega (arith, O.items_size) in
      let same : (k i : ℕ) → i < max_names → ((k ≡ count) × (i ≡ n) → ⊥) → place_of (set items at z) k i ≡ place_of items k i
      = λ k i a h. get_or-set_other items at (k * max_names + i) z (pos 0) (other_place k i count n a l h) in
      record {
        room = O.room;
        few = omega arith;
        lengths_size = O.lengths_size;
        items_size = length-set items at z ∙ O.items_size;
        used = O.used;
        unused = O.unused;
        places = λ k i h a. ap (place_fits w (num lengths k) i) (same k i a (λ e. h e.0)) ∙ O.places k i h a;
        names = λ i h. name inside same i h (ℕ_discrete i n);
        left = λ i h a. ap is_zero (same count i a (λ e. let q = e.1 in omega arith)) ∙ O.left i (omega arith) a;
      }
    where
      name : count * max_names + n < length items
          → ((k i : ℕ) → i < max_names → ((k ≡ count) × (i ≡ n) → ⊥) → place_of (set items (count * max_names + n) z) k i
          ≡ place_of items k i)
          → (i : ℕ) → i < n + 1 → Dec (i ≡ n) → item_fits w (place_of (set items (count * max_names + n) z) count i) ≡ true
      name inside same i h (yes e) =
          ap (λ (x : ℕ). item_fits w (place_of (set items (count * max_names + n) z) count x)) e
          ∙ ap (item_fits w) (get_or-set_same items (count * max_names + n) z (pos 0) inside) ∙ f
      name inside same i h (no e) = ap (item_fits w) (same count i (omega arith) (λ q. e q.1)) ∙ O.names i (omega arith)

  pub closed_entered : (n ≡ 0 → ⊥) → Entered w (set lengths count n) items (count + 1)
  unfolding place_fits
  closed_entered h =
      let room = O.room in
      let few = O.few in
      let p = put_set lengths count n (omega (arith, O.lengths_size)) in
      record {
        few = omega arith;
        lengths_size = p.0 ∙ O.lengths_size;
        items_size = O.items_size;
        used = λ k l. size p k l (ℕ_discrete k count);
        unused = λ k l. p.2 k (λ e. omega arith) ∙ O.unused k (omega arith);
        places = λ k i l. place p k i l (ℕ_discrete k count);
      }
    where
      size : Put lengths (set lengths count n) count n → (k : ℕ) → k < count + 1 → Dec (k ≡ count)
          → within 1 max_names (num (set lengths count n) k) ≡ true
      size p k l (yes e) = ap (λ (x : ℕ). within 1 max_names (num (set lengths count n) x)) e ∙ ap (within 1 max_names) p.1
          ∙ within_is 1 max_names n (omega arith) O.few
      size p k l (no e) = ap (within 1 max_names) (p.2 k e) ∙ O.used k (omega arith)

      here : (i : ℕ) → i < max_names → Dec (i < n) → cond (ltb i n) (item_fits w (place_of items count i))
          (is_zero (place_of items count i))
          ≡ true
      here i l (yes b) = rw (lt-ltb i n b) (O.names i b)
      here i l (no b) = rw (le-ltb i n (omega arith)) (O.left i (omega arith) l)

      place : Put lengths (set lengths count n) count n → (k i : ℕ) → i < max_names → Dec (k ≡ count)
          → place_fits w (num (set lengths count n) k) i (place_of items k i) ≡ true
      place p k i l (yes e) =
          ap (λ (x : ℕ). place_fits w (num (set lengths count n) x) i (place_of items x i)) e
          ∙ ap (λ (x : ℕ). place_fits w x i (place_of items count i)) p.1
          ∙ here i l (dec_lt i n)
      place p k i l (no e) = ap (λ (x : ℕ). place_fits w x i (place_of items k i)) (p.2 k e) ∙ O.places k i e l

-- an item with its sign
pub signed_fits : (w i : ℕ) (b : Bool) → (i ≡ 0 → ⊥) → i ≤ w → item_fits w (signed b i) ≡ true
unfolding item_fits
signed_fits w zero b h l = absurd (h refl)
signed_fits w (suc i) true h l = lt-ltb i w (omega arith)
signed_fits w (suc i) false h l = within_is 1 w (suc i) (omega arith) l
