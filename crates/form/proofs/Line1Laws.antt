-- Line 1 is told by its bound and its word, and is a kept line.
use mathlib.Core.Path.{◌≡◌, refl, sym, ap, ◌∙◌, subst}
use mathlib.Core.Bool.{Bool, true, false, ◌||◌, cond, false≢true}
use mathlib.Core.Logic.{◌⊎◌, inl, inr}
use mathlib.Core.List.{List, [], ◌∷◌, ◌++◌, append-nil}
use Prim.Native.Nat.{ℕ, suc, ◌+◌, ◌*◌, ◌-◌, ◌≤◌}
use native.Mathlib.Omega.{arith}
use borrow.Author.Tests.{eqb-true, leb-true}
use Rattle.std.specs.Prelude.{Ok}
use lib.Dec.{eqb, leb}
use lib.ListN.{length, drop, drop_of_length-le}
use Rattle.lists.specs.Rows.{num}
use Rattle.lists.specs.Tests.{every, within}
use Rattle.lists.specs.Pieces.{starts, is}
use Rattle.lists.proofs.TestLaws.{is_within, within_is}
use Rattle.lists.proofs.Logic.{and_left, and_right, and_no, either}
use Rattle.job.specs.declared.Word.{Word}
use Rattle.job.specs.declared.Word.TheVariants.{Free, Start, Crash}
use Rattle.job.specs.declared.refusal.Fault.{Fault}
use Rattle.job.specs.declared.refusal.Fault.TheVariants.{FirstLine as Line1Wrong}
use Rattle.fields.specs.Fields.{went, digit, fixed_field, range_field, start_word, crash_word, is_word, bound_end_field}
use Rattle.fields.specs.declared.Cursor.{Cursor}
use Rattle.lines.specs.FirstLine.{after, value_of, number_at, word_of, first_line}
use Rattle.lines.specs.declared.FirstLine.{FirstLine}
use Rattle.program.specs.ProgramLine.{is_lemmas, is_comment}
use Rattle.form.proofs.ResultLaws.{ok_same, taken, after_told}

-- `bound `
abbrev bound_word : List ℕ
bound_word = 98 ∷ 111 ∷ 117 ∷ 110 ∷ 100 ∷ 32 ∷ []

abbrev pub line1 : Cursor
line1 = record { line = 1; column = 0 }

-- ---- what line 1 says

went_told : (at to : Cursor) (n : ℕ) → went at n ≡ Ok to → at.column + n ≡ to.column
went_told at to n e = ap (λ (c : Cursor). c.column) (ok_same e)

starts_split : (t p : List ℕ) → starts t p ≡ true → p ≡ t ++ drop (length t) p
unfolding starts
starts_split [] p h = refl
starts_split (x ∷ xs) [] h = absurd (false≢true h)
starts_split (x ∷ xs) (b ∷ bs) h =
    ap (λ c. c ∷ bs) (eqb-true b x (and_left (eqb b x) (starts xs bs) h))
    ∙ ap (λ l. x ∷ l) (starts_split xs bs (and_right (eqb b x) (starts xs bs) h))

fixed_told : (w s : List ℕ) (fault : Fault) (at to : Cursor) → fixed_field w fault s at ≡ Ok to
    → (starts w (drop at.column s) ≡ true) × (at.column + length w ≡ to.column)
unfolding fixed_field
fixed_told w s fault at to e =
    let (b, f) = taken (starts w (drop at.column s)) _ e in
    (b, went_told at to (length w) f)

-- how many digits R has, where it begins at a column
abbrev width : List ℕ → ℕ → ℕ
width s column = cond (digit (num s (column + 1))) 2 1

range_told : (s : List ℕ) (at to : Cursor) → range_field s at ≡ Ok to
    → (within 49 57 (num s at.column) ≡ true) × (at.column + width s at.column ≡ to.column)
unfolding range_field
range_told s at to e =
    let (b, f) = taken (within 49 57 (num s at.column)) _ e in
    (b, went_told at to (width s at.column) f)

-- what is left of the line behind R: nothing, or a word
abbrev Left : List ℕ → ℕ → Type 0
Left s column = (length s ≤ column) ⊎ (is_word (drop column s) ≡ true)

end_told : (s : List ℕ) (at to : Cursor) → bound_end_field s at ≡ Ok to → Left s at.column
unfolding bound_end_field
end_told s at to e = go (either (leb (length s) at.column) (is_word (drop at.column s)) (taken _ _ e).0)
  where
    go : (leb (length s) at.column ≡ true) ⊎ (is_word (drop at.column s) ≡ true) → Left s at.column
    go (inl h) = inl (leb-true (length s) at.column h)
    go (inr h) = inr h

-- R from its column on, and what follows it
record Digits (s : List ℕ) (column : ℕ) (l : FirstLine) : Type 0 where
  first : within 49 57 (num s column) ≡ true
  left : Left s (column + width s column)
  value : number_at s column ≡ l.bound
  says : word_of (drop (column + width s column) s) ≡ l.word

number_told : (s : List ℕ) (at : Cursor) (l : FirstLine)
    → (after (range_field s at) λ b.
    after (bound_end_field s b) λ _.
    Ok (record { bound = number_at s at.column; word = word_of (drop b.column s) }))
    ≡ Ok l
    → Digits s at.column l
number_told s at l e =
    let (b, f, g) = after_told (range_field s at) _ l e in
    let (first, q) = range_told s at b f in
    let (x, h, k) = after_told (bound_end_field s b) _ l g in
    let here = ok_same k in
    record {
      first = first;
      left = subst (Left s) (sym q) (end_told s b x h);
      value = ap (λ (l : FirstLine). l.bound) here;
      says = ap (λ k. word_of (drop k s)) q ∙ ap (λ (l : FirstLine). l.word) here;
    }

-- behind `bound `
line1_told : (s : List ℕ) (l : FirstLine) → first_line s line1 ≡ Ok l → (t : List ℕ) × (s ≡ bound_word ++ t) × Digits t 0 l
unfolding first_line number_at
line1_told s l e =
    let (a, f, g) = after_told (fixed_field bound_word Line1Wrong s line1) _ l e in
    let (b, q) = fixed_told bound_word s Line1Wrong line1 a f in
    let t = drop 6 s in
    let split : s ≡ bound_word ++ t = starts_split bound_word s b in
    let told : Digits s 6 l = subst (λ c. Digits s c l) (sym q) (number_told s a l g) in
    (t, split, behind t (subst (λ x. Digits x 6 l) split told))
  where
    behind : (t : List ℕ) → Digits (bound_word ++ t) 6 l → Digits t 0 l
    behind t d = record { first = d.first; left = go d.left; value = d.value; says = says (width t 0) d.says }
      where
        rest : (n : ℕ) → drop (0 + n) t ≡ drop (6 + n) (bound_word ++ t)
        rest n =
            let none : 0 + n ≡ n = omega arith in
            let six : 6 + n ≡ suc (suc (suc (suc (suc (suc n))))) = omega arith in
            ap (λ k. drop k t) none ∙ ap (λ k. drop k (bound_word ++ t)) (sym six)

        says : (n : ℕ) → word_of (drop (6 + n) (bound_word ++ t)) ≡ l.word → word_of (drop (0 + n) t) ≡ l.word
        says n e = ap word_of (rest n) ∙ e

        go : Left (bound_word ++ t) (6 + width t 0) → Left t (0 + width t 0)
        go (inl l) = inl (omega arith)
        go (inr e) = inr (ap is_word (rest (width t 0)) ∙ e)

-- ---- and the word tells what is left

abbrev spelling : Word → List ℕ
spelling Free = []
spelling Start = start_word
spelling Crash = crash_word

is_told : (t p : List ℕ) → is t p ≡ true → p ≡ t
unfolding is
is_told t p h =
    let same = eqb-true (length p) (length t) (and_left (eqb (length p) (length t)) (starts t p) h) in
    let begins = starts_split t p (and_right (eqb (length p) (length t)) (starts t p) h) in
    begins ∙ ap (λ l. t ++ l) (drop_of_length-le p {i = length t} (omega arith)) ∙ append-nil t

left_told : (s : List ℕ) (column : ℕ) (word : Word) → Left s column → word_of (drop column s) ≡ word → drop column s ≡ spelling word
unfolding word_of is starts
left_told s column word (inl short) says =
    let none : drop column s ≡ [] = drop_of_length-le s {i = column} short in
    none ∙ ap spelling (sym (ap word_of none) ∙ says)
left_told s column word (inr e) says = go (is crash_word rest) refl (is start_word rest) refl e says
  where
    rest : List ℕ
    rest = drop column s

    go : (c : Bool) → is crash_word rest ≡ c → (b : Bool) → is start_word rest ≡ b → (b || c) ≡ true
        → cond c Crash (cond b Start Free) ≡ word → rest ≡ spelling word
    go true p b q l e = is_told crash_word rest p ∙ ap spelling e
    go false p true q l e = is_told start_word rest q ∙ ap spelling e
    go false p false q l e = absurd (false≢true l)

-- ---- and R tells it

value_is : (b : ℕ) → within 48 57 b ≡ true → value_of b ≡ b - 48
unfolding value_of
value_is b h = rw h

-- one digit, or two
record One (t : List ℕ) (l : FirstLine) : Type 0 where
  a : ℕ
  is : t ≡ a ∷ spelling l.word
  low : 49 ≤ a
  high : a ≤ 57
  value : a - 48 ≡ l.bound

record Two (t : List ℕ) (l : FirstLine) : Type 0 where
  a : ℕ
  b : ℕ
  is : t ≡ a ∷ b ∷ spelling l.word
  low : 49 ≤ a
  high : a ≤ 57
  low' : 48 ≤ b
  high' : b ≤ 57
  value : (a - 48) * 10 + (b - 48) ≡ l.bound

digits_are : (t : List ℕ) (l : FirstLine) → Digits t 0 l → One t l ⊎ Two t l
unfolding within every number_at
digits_are [] l d = absurd (false≢true d.first)
digits_are (a ∷ t) l d =
    let z : 0 + width (a ∷ t) 0 ≡ width (a ∷ t) 0 = omega arith in
    go t (digit (num t 0)) refl (subst (Left (a ∷ t)) z d.left) d.value (ap (λ k. word_of (drop k (a ∷ t))) (sym z) ∙ d.says)
  where
    low_high : (49 ≤ a) × (a ≤ 57)
    low_high = is_within 49 57 a d.first

    first : value_of a ≡ a - 48
    first = let (low, high) = low_high in value_is a (within_is 48 57 a (omega arith) high)

    go : (t : List ℕ) (two : Bool) → digit (num t 0) ≡ two → Left (a ∷ t) (cond two 2 1)
        → cond two (value_of a * 10 + value_of (num t 0)) (value_of a) ≡ l.bound → word_of (drop (cond two 2 1) (a ∷ t)) ≡ l.word
        → One (a ∷ t) l ⊎ Two (a ∷ t) l
    go t false p left value says =
        let (low, high) = low_high in
        let rest = left_told (a ∷ t) 1 l.word left says in
        inl (record { a = a; is = ap (λ k. a ∷ k) rest; low = low; high = high; value = sym first ∙ value })
    go [] true p left value says = absurd (false≢true p)
    go (b ∷ t) true p left value says =
        let (low, high) = low_high in
        let (low', high') = is_within 48 57 b p in
        let second = value_is b p in
        let rest = left_told (a ∷ b ∷ t) 2 l.word left says in
        inr (record {
          a = a;
          b = b;
          is = ap (λ k. a ∷ b ∷ k) rest;
          low = low;
          high = high;
          low' = low';
          high' = high';
          value = rw (← first, ← second) value;
        })

digits_same : (t u : List ℕ) (l : FirstLine) → Digits t 0 l → Digits u 0 l → t ≡ u
digits_same t u l d e = go (digits_are t l d) (digits_are u l e)
  where
    go : One t l ⊎ Two t l → One u l ⊎ Two u l → t ≡ u
    go (inl x) (inl y) =
        let a : x.a ≡ y.a = omega arith in
        x.is ∙ ap (λ c. c ∷ spelling l.word) a ∙ sym y.is
    go (inl x) (inr y) = absurd (omega arith)
    go (inr x) (inl y) = absurd (omega arith)
    go (inr x) (inr y) =
        let a : x.a ≡ y.a = omega arith in
        let b : x.b ≡ y.b = omega arith in
        x.is ∙ ap (λ c. c ∷ x.b ∷ spelling l.word) a ∙ ap (λ c. y.a ∷ c ∷ spelling l.word) b ∙ sym y.is

pub line1_same : (s t : List ℕ) (l : FirstLine) → first_line s line1 ≡ Ok l → first_line t line1 ≡ Ok l → s ≡ t
line1_same s t l e f =
    let (a, p, d) = line1_told s l e in
    let (b, q, g) = line1_told t l f in
    p ∙ ap (λ k. bound_word ++ k) (digits_same a b l d g) ∙ sym q

-- ---- it is neither `lemmas` nor a comment

pub line1_kept : (s : List ℕ) (l : FirstLine) → first_line s line1 ≡ Ok l → (is_lemmas s ≡ false) × (is_comment s ≡ false)
unfolding is_lemmas is_comment starts
line1_kept s l e =
    let (t, p, d) = line1_told s l e in
    (ap is_lemmas p ∙ and_no (eqb (length (bound_word ++ t)) 6), ap is_comment p)
