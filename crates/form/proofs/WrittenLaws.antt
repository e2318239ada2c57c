-- What is written is read: the lines of ended lines, the words of a spaced line; and of any text its lines and words, by bytes and lengths.
use mathlib.Core.Path.{◌≡◌, refl, sym, ap, ◌∙◌, subst}
use mathlib.Core.Bool.{Bool, true, false, cond}
use mathlib.Core.Logic.{◌⊎◌, inl, inr}
use mathlib.Core.List.{List, [], ◌∷◌, ◌++◌, map}
use Prim.Native.Nat.{ℕ, ◌+◌, ◌≤◌, ◌<◌}
use native.Mathlib.Omega.{arith}
use native.Mathlib.Decide.{dec_lt}
use borrow.Author.Tests.{eq-eqb, ne_eqb, eqb-false, le-ltb, ltb-false}
use Rattle.std.specs.Prelude.{Ok}
use lib.Dec.{eqb, ltb}
use lib.Seq.{drop-drop}
use lib.ListN.{length, drop, take, length-append, length-take, length-drop}
use Rattle.lists.specs.Pieces.{Pieces, last, piece, onto, cut, up_to}
use Rattle.lists.proofs.PieceLaws.{length_up_to}
use Rattle.order.specs.Sorting.{In}
use Rattle.order.proofs.MemberLaws.{in_append}
use Rattle.order.proofs.WeightLaws.{weight}
use Rattle.scan.specs.Bytes.{plain}
use Rattle.scan.specs.Lines.{Row, row, rows, lines}
use Rattle.scan.proofs.LineLaws.{lines_first, lines_none}
use Rattle.fields.specs.Fields.{max_columns, whole_line}
use Rattle.parse.specs.Lemmas.{word, filled, words}
use Rattle.form.specs.Form.{spaced, ended}
use Rattle.form.proofs.ResultLaws.{passed, taken}

-- no byte of w is k
abbrev pub Free : ℕ → List ℕ → Type 0
Free k w = (b : ℕ) → In b w → b ≡ k → ⊥

-- a word: some bytes, none of them a space
pub record Word (w : List ℕ) : Type 0 where
  pub some : 0 < length w
  pub free : Free 32 w

-- with the byte that ends it
abbrev pub long : List ℕ → ℕ
long w = length w + 1

-- lines, each with its LF
abbrev pub as_rows : List (List ℕ) → List Row
as_rows = map (λ l. row l true)

-- ---- pieces that were put together

cut_free : (k : ℕ) (w : List ℕ) → Free k w → cut k w ≡ last w
unfolding cut
cut_free k [] h = refl
cut_free k (b ∷ bs) h = rw (ne_eqb b k (h b (inl refl))) (ap (onto b) (cut_free k bs (λ c i. h c (inr i))))

cut_joined : (k : ℕ) (w t : List ℕ) → Free k w → cut k (w ++ (k ∷ t)) ≡ piece w (cut k t)
unfolding cut
cut_joined k [] t h = rw (eq-eqb k k refl)
cut_joined k (b ∷ bs) t h = rw (ne_eqb b k (h b (inl refl))) (ap (onto b) (cut_joined k bs t (λ c i. h c (inr i))))

pub lines_ended : (ls : List (List ℕ)) → ((l : List ℕ) → In l ls → Free 10 l) → lines (ended ls) ≡ as_rows ls
unfolding lines rows ended cut
lines_ended [] h = refl
lines_ended (l ∷ ls) h =
    ap rows (cut_joined 10 l (ended ls) (h l (inl refl))) ∙ ap (λ rs. row l true ∷ rs) (lines_ended ls (λ k i. h k (inr i)))

word_some : (p : List ℕ) (ws : List (List ℕ)) → 0 < length p → word p ws ≡ p ∷ ws
word_some [] ws h = absurd (omega arith)
word_some (b ∷ bs) ws h = refl

pub words_spaced : (ws : List (List ℕ)) → ((w : List ℕ) → In w ws → Word w) → words (spaced ws) ≡ ws
unfolding words filled spaced cut
words_spaced [] h = refl
words_spaced (w ∷ []) h =
    let W = h w (inl refl) in
    ap filled (cut_free 32 w W.free) ∙ word_some w [] W.some
words_spaced (w ∷ v ∷ ws) h =
    let W = h w (inl refl) in
    ap filled (cut_joined 32 w (spaced (v ∷ ws)) W.free)
    ∙ word_some w (words (spaced (v ∷ ws))) W.some
    ∙ ap (λ l. w ∷ l) (words_spaced (v ∷ ws) (λ u i. h u (inr i)))

-- ---- the lengths of what is written

pub length_ended : (ls : List (List ℕ)) → length (ended ls) ≡ weight long ls
unfolding ended weight
length_ended [] = refl
length_ended (l ∷ ls) = length-append l (10 ∷ ended ls) ∙ omega (arith, length_ended ls)

pub length_spaced : (w : List ℕ) (ws : List (List ℕ)) → long (spaced (w ∷ ws)) ≡ weight long (w ∷ ws)
unfolding spaced weight
length_spaced w [] = omega arith
length_spaced w (v ∷ ws) = omega (arith, length-append w (32 ∷ spaced (v ∷ ws)), length_spaced v ws)

-- a byte of a spaced line is a space or a byte of a word
pub spaced_byte : (ws : List (List ℕ)) (b : ℕ) → In b (spaced ws) → (b ≡ 32) ⊎ ((w : List ℕ) × In w ws × In b w)
unfolding spaced
spaced_byte [] b i = absurd i
spaced_byte (w ∷ []) b i = inr (w, inl refl, i)
spaced_byte (w ∷ v ∷ ws) b i = go (in_append b w (32 ∷ spaced (v ∷ ws)) i) (spaced_byte (v ∷ ws) b)
  where
    more : (b ≡ 32) ⊎ ((u : List ℕ) × In u (v ∷ ws) × In b u) → (b ≡ 32) ⊎ ((u : List ℕ) × In u (w ∷ v ∷ ws) × In b u)
    more (inl e) = inl e
    more (inr (u, j, k)) = inr (u, inr j, k)

    go : In b w ⊎ In b (32 ∷ spaced (v ∷ ws)) → (In b (spaced (v ∷ ws)) → (b ≡ 32) ⊎ ((u : List ℕ) × In u (v ∷ ws) × In b u))
        → (b ≡ 32) ⊎ ((u : List ℕ) × In u (w ∷ v ∷ ws) × In b u)
    go (inl j) f = inr (w, inl refl, j)
    go (inr (inl e)) f = inl e
    go (inr (inr j)) f = more (f j)

-- ---- the pieces of any text

listed : Pieces → List (List ℕ)
listed (last p) = p ∷ []
listed (piece p ps) = p ∷ listed ps

-- one byte more is put in front of one piece
onto_listed : (x : ℕ) (ps : Pieces) (p : List ℕ) → In p (listed (onto x ps)) → ((q : List ℕ) × In q (listed ps) × (p ≡ x ∷ q))
    ⊎ In p (listed ps)
unfolding listed
onto_listed x (last q) p (inl e) = inl (q, inl refl, e)
onto_listed x (last q) p (inr i) = absurd i
onto_listed x (piece q ps) p (inl e) = inl (q, inl refl, e)
onto_listed x (piece q ps) p (inr i) = inr (inr i)

onto_weight : (x : ℕ) (ps : Pieces) → weight long (listed (onto x ps)) ≡ weight long (listed ps) + 1
unfolding listed weight
onto_weight x (last q) = omega arith
onto_weight x (piece q ps) = omega arith

-- a byte of a piece is a byte of the text, and not the one that cuts
cut_byte : (k : ℕ) (s p : List ℕ) (b : ℕ) → In p (listed (cut k s)) → In b p → In b s × (b ≡ k → ⊥)
unfolding cut listed
cut_byte k [] p b (inl e) j = absurd (subst (In b) e j)
cut_byte k [] p b (inr i) j = absurd i
cut_byte k (x ∷ xs) p b i j = go (eqb x k) refl i (λ q. cut_byte k xs q b)
  where
    onward : In b xs × (b ≡ k → ⊥) → In b (x ∷ xs) × (b ≡ k → ⊥)
    onward (a, n) = (inr a, n)

    joined : eqb x k ≡ false → ((q : List ℕ) × In q (listed (cut k xs)) × (p ≡ x ∷ q)) ⊎ In p (listed (cut k xs))
        → ((q : List ℕ) → In q (listed (cut k xs)) → In b q → In b xs × (b ≡ k → ⊥)) → In b (x ∷ xs) × (b ≡ k → ⊥)
    joined n (inr m) f = onward (f p m j)
    joined n (inl (q, m, e)) f = by (subst (In b) e j)
      where
        by : (b ≡ x) ⊎ In b q → In b (x ∷ xs) × (b ≡ k → ⊥)
        by (inl a) = (inl a, λ z. eqb-false x k n (sym a ∙ z))
        by (inr a) = onward (f q m a)

    go : (t : Bool) → eqb x k ≡ t → In p (listed (cond t (piece [] (cut k xs)) (onto x (cut k xs))))
        → ((q : List ℕ) → In q (listed (cut k xs)) → In b q → In b xs × (b ≡ k → ⊥)) → In b (x ∷ xs) × (b ≡ k → ⊥)
    go true n (inl e) f = absurd (subst (In b) e j)
    go true n (inr m) f = onward (f p m j)
    go false n m f = joined n (onto_listed x (cut k xs) p m) f

cut_weight : (k : ℕ) (s : List ℕ) → weight long (listed (cut k s)) ≡ length s + 1
unfolding cut listed weight
cut_weight k [] = refl
cut_weight k (x ∷ xs) = go (eqb x k) (cut_weight k xs)
  where
    go : (t : Bool) → weight long (listed (cut k xs)) ≡ length xs + 1
        → weight long (listed (cond t (piece [] (cut k xs)) (onto x (cut k xs)))) ≡ length (x ∷ xs) + 1
    go true h = omega arith
    go false h = omega (arith, onto_weight x (cut k xs))

-- ---- the words of a line

filled_in : (ps : Pieces) (w : List ℕ) → In w (filled ps) → In w (listed ps) × (0 < length w)
unfolding filled listed
filled_in (last p) w i = go p i
  where
    go : (p : List ℕ) → In w (word p []) → In w (p ∷ []) × (0 < length w)
    go [] i = absurd i
    go (b ∷ bs) (inl e) = (inl e, rw e (omega arith))
    go (b ∷ bs) (inr i) = absurd i
filled_in (piece p ps) w i = go p i (filled_in ps w)
  where
    go : (p : List ℕ) → In w (word p (filled ps)) → (In w (filled ps) → In w (listed ps) × (0 < length w)) → In w (p ∷ listed ps)
        × (0 < length w)
    go [] i f = let (a, s) = f i in (inr a, s)
    go (b ∷ bs) (inl e) f = (inl e, rw e (omega arith))
    go (b ∷ bs) (inr i) f = let (a, s) = f i in (inr a, s)

filled_weight : (ps : Pieces) → weight long (filled ps) ≤ weight long (listed ps)
unfolding filled listed weight
filled_weight (last p) = go p
  where
    go : (p : List ℕ) → weight long (word p []) ≤ length p + 1 + 0
    go [] = omega arith
    go (b ∷ bs) = omega arith
filled_weight (piece p ps) = go p (filled_weight ps)
  where
    go : (p : List ℕ) → weight long (filled ps) ≤ weight long (listed ps) → weight long (word p (filled ps)) ≤ length p + 1 + weight long
        (listed ps)
    go [] h = omega arith
    go (b ∷ bs) h = omega arith

-- a byte of a word is a byte of the line
pub word_byte : (s w : List ℕ) (b : ℕ) → In w (words s) → In b w → In b s
unfolding words
word_byte s w b i j = (cut_byte 32 s w b (filled_in (cut 32 s) w i).0 j).0

pub words_are : (s w : List ℕ) → In w (words s) → Word w
unfolding words
words_are s w i =
    let (j, some) = filled_in (cut 32 s) w i in
    record { some = some; free = λ b k. (cut_byte 32 s w b j k).1 }

-- a line is at least as long as its words with one space between
pub words_weight : (s : List ℕ) → weight long (words s) ≤ long s
unfolding words
words_weight s = omega (arith, filled_weight (cut 32 s), cut_weight 32 s)

-- ---- the lines of a text

-- the bytes of a line, with its LF where it has one
abbrev pub row_length : Row → ℕ
row_length l = length l.bytes + cond l.ended 1 0

rows_in : (ps : Pieces) (l : Row) → In l (rows ps) → In l.bytes (listed ps)
unfolding rows listed
rows_in (last []) l i = absurd i
rows_in (last (b ∷ bs)) l (inl e) = inl (ap (λ (r : Row). r.bytes) e)
rows_in (last (b ∷ bs)) l (inr i) = absurd i
rows_in (piece p ps) l (inl e) = inl (ap (λ (r : Row). r.bytes) e)
rows_in (piece p ps) l (inr i) = inr (rows_in ps l i)

rows_weight : (ps : Pieces) → weight row_length (rows ps) + 1 ≡ weight long (listed ps)
unfolding rows listed weight
rows_weight (last []) = refl
rows_weight (last (b ∷ bs)) = omega arith
rows_weight (piece p ps) = omega (arith, rows_weight ps)

pub line_free : (text : List ℕ) (l : Row) → In l (lines text) → Free 10 l.bytes
unfolding lines
line_free text l i b j = (cut_byte 10 text l.bytes b (rows_in (cut 10 text) l i) j).1

pub lines_weight : (text : List ℕ) → weight row_length (lines text) ≡ length text
unfolding lines
lines_weight text = omega (arith, rows_weight (cut 10 text), cut_weight 10 text)

-- behind a line the text goes on with the next
pub lines_next : (text : List ℕ) (at : ℕ) (l : Row) (ls : List Row) → lines (drop at text) ≡ l ∷ ls
    → lines (drop (at + long l.bytes) text) ≡ ls
lines_next text at l ls e = go (dec_lt at (length text)) e
  where
    go : Dec (at < length text) → lines (drop at text) ≡ l ∷ ls → lines (drop (at + long l.bytes) text) ≡ ls
    go (yes h) e =
        let s = drop at text in
        let k = length (up_to 10 s) in
        let some : 0 < length s = omega (arith, length-drop at text) in
        let first = lines_first s k some refl in
        let here : l ≡ row (take k s) (ltb k (length s)) = cc in
        let behind : lines (drop (k + 1) s) ≡ ls = cc in
        let next : at + long l.bytes ≡ at + (k + 1) =
        omega (arith, length_up_to 10 s, length-take k s, ap (λ (r : Row). long r.bytes) here) in
        ap (λ n. lines (drop n text)) next ∙ ap lines (sym (drop-drop (k + 1) at text)) ∙ behind
    go (no h) e =
        let none : [] ≡ l ∷ ls = sym (lines_none (drop at text) (omega (arith, length-drop at text))) ∙ e in
        let never : ◌≡◌ {A = ℕ} 0 1 = cc in
        absurd (omega arith)

-- ---- 2, 3, 4 of a line

pub record Whole (l : Row) : Type 0 where
  pub short : length l.bytes ≤ max_columns
  pub bytes : plain l.bytes ≡ true
  pub ends : l.ended ≡ true

pub whole_told : (l : Row) → whole_line l ≡ Ok tt → Whole l
unfolding whole_line
whole_told l e =
    let (short, f) = passed (ltb max_columns (length l.bytes)) _ e in
    let (bytes, g) = taken (plain l.bytes) _ f in
    record { short = ltb-false max_columns (length l.bytes) short; bytes = bytes; ends = (taken l.ended _ g).0 }

pub whole_is : (s : List ℕ) → length s ≤ max_columns → plain s ≡ true → whole_line (row s true) ≡ Ok tt
unfolding whole_line
whole_is s h p = rw (le-ltb max_columns (length s) h, p)
