-- Lemma lines: exactly the sound ones are accepted, and they add their literals to the table's lemmas and change nothing else.
use mathlib.Core.Path.{◌≡◌, refl, sym, ap, ◌∙◌, subst}
use mathlib.Core.Bool.{Bool}
use mathlib.Core.Logic.{◌⊎◌, inl, inr}
use mathlib.Core.List.{List, [], ◌∷◌, ◌++◌, map, append_assoc, append-nil}
use Prim.Native.Nat.{ℕ, zero, suc, ◌+◌, ◌*◌, ◌≤◌, ◌<◌}
use native.Mathlib.Omega.{arith}
use native.Mathlib.Decide.{ℕ_discrete}
use native.Mathlib.Numerals.{add-one}
use borrow.Author.Tests.{ne_eqb, eqb-false, lt-leb, leb-false}
use Rattle.std.specs.Prelude.{Option, Some, None, Result, Ok, Err}
use lib.Dec.{eqb, leb}
use lib.IntN.{ℤ, pos}
use lib.ListN.{length, get_or, set, length-set}
use lib.Seq.{get_or-set_same, get_or-set_other}
use Rattle.lists.specs.Rows.{each, tab, num}
use Rattle.lists.proofs.RowLaws.{tab_same}
use Rattle.order.specs.Sorting.{In}
use Rattle.job.specs.Limits.{max_lemmas, max_names}
use Rattle.job.specs.declared.Job.{Job}
use Rattle.job.specs.declared.refusal.Fault.{Fault}
use Rattle.job.specs.declared.refusal.Refusal.{Refusal}
use Rattle.job.specs.Literals.{Clause}
use Rattle.job.specs.Table.{lemma as lemma_at, item_of as literal}
use Rattle.scan.specs.Lines.{Row}
use Rattle.fields.specs.Fields.{whole_line}
use Rattle.parse.specs.Answers.{then}
use Rattle.parse.specs.Lemmas.{words, bare, negated, item_in, signed, with_item, named, lemma, whole, lemma_line, lemma_lines}
use Rattle.parse.proofs.AnswerLaws.{goes_on}
use Rattle.form.specs.Form.{lemmas_of}
use Rattle.form.proofs.ResultLaws.{not_ok, passed, then_told}
use Rattle.form.proofs.SpellingLaws.{item_of, Known, literal_of}

-- ---- the table after a lemma line

-- the signed item of a word
abbrev value : Job → List ℕ → ℤ
value J w = signed (negated w) (item_of J (bare w))

-- items with those of the words from place p on
unfoldable pub with_words : (List ℕ → ℤ) → ℕ → List (List ℕ) → List ℤ → List ℤ
with_words f p [] items = items
with_words f p (w ∷ ws) items = with_words f (p + 1) ws (set items p (f w))

-- one lemma more, of k names
abbrev with_lemma : Job → ℕ → List ℤ → Job
with_lemma J k items = record {
  program = J.program;
  labels = J.labels;
  names = J.names;
  lemmas = J.lemmas + 1;
  lengths = set J.lengths J.lemmas k;
  items = items;
}

-- of which the first k names are there
abbrev closed_with : Job → ℕ → List (List ℕ) → Job
closed_with J k ws = with_lemma J (k + length ws) (with_words (value J) (J.lemmas * max_names + k) ws J.items)

abbrev pub with_line : Job → Row → Job
with_line J l = closed_with J 0 (words l.bytes)

unfoldable pub with_lines : Job → List Row → Job
with_lines J [] = J
with_lines J (l ∷ ls) = with_lines (with_line J l) ls

-- ---- which lines are accepted

pub record Sound (J : Job) (l : Row) : Type 0 where
  pub whole_line : whole_line l ≡ Ok tt
  pub known : (w : List ℕ) → In w (words l.bytes) → Known J w
  pub some : 1 ≤ length (words l.bytes)
  pub few : length (words l.bytes) ≤ max_names

-- a line that is read is whole
whole_ok : (n : ℕ) (f : Result (Unit {0}) Fault) {r : Result Job Refusal} {K : Job} → whole f n r ≡ Ok K → (f ≡ Ok tt) × (r ≡ Ok K)
unfolding whole
whole_ok n (Ok u) h = (refl, h)
whole_ok n (Err fault) h = not_ok h

module _ (n : ℕ) where
  lemma_on : (J : Job) (k : ℕ) (w : List ℕ) (ws : List (List ℕ)) → k < max_names → Known J w
      → lemma J n k (w ∷ ws) ≡ lemma (with_item J k (value J w)) n (k + 1) ws
  unfolding lemma then named
  lemma_on J k w ws room (i, e) = rw (lt-leb max_names k room, e)

  -- names that are known, and not too many
  lemma_is : (J : Job) (k : ℕ) (ws : List (List ℕ)) → ((w : List ℕ) → In w ws → Known J w) → 1 ≤ k + length ws → k + length ws ≤ max_names
      → lemma J n k ws ≡ Ok (closed_with J k ws)
  unfolding lemma with_words
  lemma_is J k [] h s l =
      let e : k ≡ k + 0 = omega arith in
      rw (ne_eqb k 0 (λ e. omega arith)) (ap (λ c. Ok (with_lemma J c J.items)) e)
  lemma_is J k (w ∷ ws) h s l =
      let at = J.lemmas * max_names in
      let items = set J.items (at + k) (value J w) in
      let count : k + 1 + length ws ≡ k + suc (length ws) = omega arith in
      let place : at + (k + 1) ≡ at + k + 1 = omega arith in
      lemma_on J k w ws (omega arith) (h w (inl refl))
      ∙ lemma_is (with_item J k (value J w)) (k + 1) ws (λ v i. h v (inr i)) (omega arith) (omega arith)
      ∙ ap (λ c. Ok (with_lemma J c (with_words (value J) (at + (k + 1)) ws items))) count
      ∙ ap (λ p. Ok (with_lemma J (k + suc (length ws)) (with_words (value J) p ws items))) place

  named_told : (J K : Job) (k : ℕ) (negative : Bool) (x : Option ℕ) → named J n k negative x ≡ Ok K → (i : ℕ) × (x ≡ Some i)
  unfolding named
  named_told J K k negative (Some i) h = (i, refl)
  named_told J K k negative None h = not_ok h

  lemma_told : (J K : Job) (k : ℕ) (ws : List (List ℕ)) → k ≤ max_names → lemma J n k ws ≡ Ok K
      → ((w : List ℕ) → In w ws → Known J w) × (1 ≤ k + length ws) × (k + length ws ≤ max_names)
  unfolding lemma
  lemma_told J K k [] l h =
      let z : k ≡ 0 → ⊥ = eqb-false k 0 (passed (eqb k 0) _ h).0 in
      ((λ w i. absurd i), omega arith, omega arith)
  lemma_told J K k (w ∷ ws) l h =
      let (L, a, _) = then_told _ _ K h in
      let (b, g) = passed (leb max_names k) _ a in
      let room : k < max_names = leb-false max_names k b in
      let z : Known J w = named_told J L k (negated w) (item_in J (bare w)) g in
      let (known, some, few) =
      lemma_told (with_item J k (value J w)) K (k + 1) ws (omega arith) (sym (lemma_on J k w ws room z) ∙ h) in
      ((λ v m. either v z known m), omega arith, omega arith)
    where
      either : (v : List ℕ) → Known J w → ((u : List ℕ) → In u ws → Known J u) → (v ≡ w) ⊎ In v ws → Known J v
      either v z f (inl e) = subst (Known J) (sym e) z
      either v z f (inr i) = f v i

  line_is : (J : Job) (l : Row) → J.lemmas < max_lemmas → Sound J l → lemma_line J l n ≡ Ok (with_line J l)
  unfolding lemma_line whole
  line_is J l room s =
      rw (s.whole_line, lt-leb max_lemmas J.lemmas room)
      (lemma_is J 0 (words l.bytes) s.known (omega (arith, s.some)) (omega (arith, s.few)))

  line_told : (J K : Job) (l : Row) → lemma_line J l n ≡ Ok K → (J.lemmas < max_lemmas) × Sound J l
  unfolding lemma_line
  line_told J K l h =
      let (w, g) = whole_ok n (whole_line l) h in
      let (b, k) = passed (leb max_lemmas J.lemmas) _ g in
      let (known, some, few) = lemma_told J K 0 (words l.bytes) (omega arith) k in
      (leb-false max_lemmas J.lemmas b, record { whole_line = w; known = known; some = omega arith; few = omega arith })

abbrev pub AllSound : Job → List Row → Type 0
AllSound J ls = (l : Row) → In l ls → Sound J l

-- whether a line is sound does not depend on the lemmas before it
sound_on : (J : Job) (l k : Row) → Sound J k → Sound (with_line J l) k
sound_on J l k s = record { whole_line = s.whole_line; known = s.known; some = s.some; few = s.few }

sound_back : (J : Job) (l k : Row) → Sound (with_line J l) k → Sound J k
sound_back J l k s = record { whole_line = s.whole_line; known = s.known; some = s.some; few = s.few }

-- as many as there is room for are accepted
pub lines_are : (J : Job) (n : ℕ) (ls : List Row) → J.lemmas + length ls ≤ max_lemmas → AllSound J ls
    → lemma_lines J n ls ≡ Ok (with_lines J ls)
unfolding lemma_lines with_lines
lines_are J n [] room h = refl
lines_are J n (l ∷ ls) room h =
    goes_on _ (λ e. lemma_lines e (n + 1) ls) _ (line_is (n + 1) J l (omega arith) (h l (inl refl)))
    ∙ lines_are (with_line J l) (n + 1) ls (omega arith) (λ k i. sound_on J l k (h k (inr i)))

pub lines_told : (J K : Job) (n : ℕ) (ls : List Row) → J.lemmas ≤ max_lemmas → lemma_lines J n ls ≡ Ok K
    → (J.lemmas + length ls ≤ max_lemmas) × AllSound J ls
unfolding lemma_lines
lines_told J K n [] room h = (omega arith, λ l i. absurd i)
lines_told J K n (l ∷ ls) room h =
    let (L, a, _) = then_told (lemma_line J l (n + 1)) (λ e. lemma_lines e (n + 1) ls) K h in
    let (few, s) = line_told (n + 1) J L l a in
    let next = goes_on _ (λ e. lemma_lines e (n + 1) ls) _ (line_is (n + 1) J l few s) in
    let (count, rest) = lines_told (with_line J l) K (n + 1) ls (omega arith) (sym next ∙ h) in
    (omega arith, λ k i. each k s rest i)
  where
    each : (k : Row) → Sound J l → AllSound (with_line J l) ls → (k ≡ l) ⊎ In k ls → Sound J k
    each k s f (inl e) = subst (Sound J) (sym e) s
    each k s f (inr i) = sound_back J l k (f k i)

-- ---- what they change

pub lines_keep : (J : Job) (ls : List Row) → ((with_lines J ls).program ≡ J.program) × ((with_lines J ls).labels ≡ J.labels)
    × ((with_lines J ls).names ≡ J.names)
unfolding with_lines
lines_keep J [] = (refl, refl, refl)
lines_keep J (l ∷ ls) = lines_keep (with_line J l) ls

-- places enough, and no lemma too long
pub record Sized (J : Job) : Type 0 where
  pub lengths_size : length J.lengths ≡ max_lemmas
  pub items_size : length J.items ≡ max_lemmas * max_names
  pub short : (k : ℕ) → k < J.lemmas → num J.lengths k ≤ max_names

-- a row begins with its first element
tab_front : {T : Type 0} (n : ℕ) (f : ℕ → T) → tab (suc n) f ≡ f 0 ∷ tab n (λ i. f (suc i))
unfolding each
tab_front zero f = refl
tab_front (suc n) f = ap (λ l. l ++ (f (suc n) ∷ [])) (tab_front n f)

module _ (f : List ℕ → ℤ) where
  words_size : (p : ℕ) (ws : List (List ℕ)) (items : List ℤ) → length (with_words f p ws items) ≡ length items
  unfolding with_words
  words_size p [] items = refl
  words_size p (w ∷ ws) items = words_size (p + 1) ws (set items p (f w)) ∙ length-set items p (f w)

  -- a place before theirs
  words_before : (p : ℕ) (ws : List (List ℕ)) (items : List ℤ) (i : ℕ) → i < p → get_or (with_words f p ws items) i (pos 0)
      ≡ get_or items i (pos 0)
  unfolding with_words
  words_before p [] items i l = refl
  words_before p (w ∷ ws) items i l =
      words_before (p + 1) ws (set items p (f w)) i (omega arith) ∙ get_or-set_other items p i (f w) (pos 0) (λ e. omega arith)

  -- theirs
  words_there : (p : ℕ) (ws : List (List ℕ)) (items : List ℤ) → p + length ws ≤ length items
      → tab (length ws) (λ i. literal (get_or (with_words f p ws items) (p + i) (pos 0))) ≡ map (λ w. literal (f w)) ws
  unfolding with_words each
  words_there p [] items l = refl
  words_there p (w ∷ ws) items l =
      let items' = set items p (f w) in
      let all = with_words f (p + 1) ws items' in
      let at : p + 0 ≡ p = omega arith in
      let first : get_or all (p + 0) (pos 0) ≡ f w =
      ap (λ i. get_or all i (pos 0)) at ∙ words_before (p + 1) ws items' p (omega arith)
      ∙ get_or-set_same items p (f w) (pos 0) (omega arith) in
      let rest : tab (length ws) (λ i. literal (get_or all (p + suc i) (pos 0)))
      ≡ tab (length ws) (λ i. literal (get_or all (p + 1 + i) (pos 0))) =
      tab_same (length ws) _ _ (λ i h. let e : p + suc i ≡ p + 1 + i = omega arith in ap (λ j. literal (get_or all j (pos 0))) e) in
      tab_front (length ws) (λ i. literal (get_or all (p + i) (pos 0)))
      ∙ ap (λ z. literal z ∷ tab (length ws) (λ i. literal (get_or all (p + suc i) (pos 0)))) first
      ∙ ap (λ l. literal (f w) ∷ l) (rest ∙ words_there (p + 1) ws items' (omega (arith, length-set items p (f w))))

-- the literals of a line
abbrev pub literals : Job → Row → Clause
literals J l = map (literal_of J) (words l.bytes)

module _ (J : Job) (S : Sized J) (l : Row) (room : J.lemmas < max_lemmas) (few : length (words l.bytes) ≤ max_names) where
  abbrev ws : List (List ℕ)
  ws = words l.bytes

  abbrev after : Job
  after = with_line J l

  abbrev lengths : List ℕ
  lengths = after.lengths

  length_kept : (k : ℕ) → k < J.lemmas → num lengths k ≡ num J.lengths k
  length_kept k h = get_or-set_other J.lengths J.lemmas k (0 + length ws) 0 (λ e. omega arith)

  length_new : num lengths J.lemmas ≡ length ws
  length_new = get_or-set_same J.lengths J.lemmas (0 + length ws) 0 (omega (arith, S.lengths_size)) ∙ omega arith

  line_sized : Sized after
  line_sized = record {
    lengths_size = length-set J.lengths J.lemmas (0 + length ws) ∙ S.lengths_size;
    items_size = words_size (value J) (J.lemmas * max_names + 0) ws J.items ∙ S.items_size;
    short = λ k h. size k h (ℕ_discrete k J.lemmas);
  }
    where
      size : (k : ℕ) → k < J.lemmas + 1 → Dec (k ≡ J.lemmas) → num lengths k ≤ max_names
      size k h (yes e) = subst (λ i. num lengths i ≤ max_names) (sym e) (omega (arith, length_new))
      size k h (no e) = omega (arith, length_kept k (omega arith), S.short k (omega arith))

  -- a lemma before it is as it was
  lemma_kept : (k : ℕ) → k < J.lemmas → lemma_at after k ≡ lemma_at J k
  unfolding lemma_at
  lemma_kept k h =
      ap (λ c. tab c (λ i. literal (get_or after.items (k * max_names + i) (pos 0)))) (length_kept k h)
      ∙ tab_same (num J.lengths k) _ _
      (λ i b. ap literal (words_before (value J) (J.lemmas * max_names + 0) ws J.items (k * max_names + i) (omega (arith, S.short k h))))

  lemma_new : lemma_at after J.lemmas ≡ literals J l
  unfolding lemma_at
  lemma_new =
      ap (λ c. tab c (λ i. literal (get_or after.items (J.lemmas * max_names + i) (pos 0)))) length_new
      ∙ tab_same (length ws) _ _ (λ i b. let e : J.lemmas * max_names + i ≡ J.lemmas * max_names + 0 + i = omega arith in
      ap (λ p. literal (get_or after.items p (pos 0))) e)
      ∙ words_there (value J) (J.lemmas * max_names + 0) ws J.items (omega (arith, S.items_size))

  line_adds : lemmas_of after ≡ lemmas_of J ++ (literals J l ∷ [])
  unfolding each
  line_adds =
      ap (λ n. tab n (lemma_at after)) (add-one J.lemmas)
      ∙ ap (λ x. x ++ (lemma_at after J.lemmas ∷ [])) (tab_same J.lemmas _ _ lemma_kept)
      ∙ ap (λ c. lemmas_of J ++ (c ∷ [])) lemma_new

-- the lemmas of a table after sound lines
pub lines_add : (J : Job) (ls : List Row) → Sized J → J.lemmas + length ls ≤ max_lemmas → AllSound J ls
    → lemmas_of (with_lines J ls) ≡ lemmas_of J ++ map (literals J) ls
unfolding with_lines
lines_add J [] S room h = sym (append-nil (lemmas_of J))
lines_add J (l ∷ ls) S room h =
    let s = h l (inl refl) in
    let few = s.few in
    lines_add (with_line J l) ls (line_sized J S l (omega arith) few) (omega arith) (λ k i. sound_on J l k (h k (inr i)))
    ∙ ap (λ x. x ++ map (literals J) ls) (line_adds J S l (omega arith) few)
    ∙ append_assoc (lemmas_of J) (literals J l ∷ []) (map (literals J) ls)
