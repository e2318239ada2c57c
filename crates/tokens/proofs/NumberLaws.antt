-- Laws of one number: its digits, what they write, and one law for each way out of the code that reads it.
use mathlib.Core.Path.{◌≡◌, refl, sym, ap, ◌∙◌}
use mathlib.Core.Bool.{Bool, true, false, not, ◌||◌, ◌&&◌, cond, true≢false}
use mathlib.Core.List.{List, [], ◌∷◌}
use Prim.Native.Nat.{ℕ, zero, suc, ◌+◌, ◌*◌, ◌-◌, ◌≤◌, ◌<◌, ◌^◌, min}
use native.Mathlib.Omega.{arith}
use native.Mathlib.Decide.{ℕ_discrete, dec_lt}
use native.Mathlib.Nat.{pow-suc}
use native.Mathlib.Numerals.{add-one}
use borrow.Author.Tests.{eq-eqb, ne_eqb, eqb-true}
use lib.Dec.{eqb}
use lib.Pointwise.{pointwise}
use lib.ListN.{length, get_or, take, drop, drop_of_length-le}
use lib.Seq.{drop-cons}
use Rattle.lists.specs.Rows.{num}
use Rattle.std.proofs.lemmas.List.{take_min, take_rest}
use Rattle.std.specs.Char.{is_ascii_digit}
use Rattle.lists.specs.Tests.{every, within}
use Rattle.lists.proofs.Logic.{and_left, and_no}
use Rattle.lists.proofs.TestLaws.{is_within, within_is, within_under, within_over}
use Rattle.lists.specs.Pieces.{up_to}
use Rattle.tokens.specs.declared.Token.TheVariants.{Bad}
use Rattle.tokens.specs.declared.FirstWord.{FirstWord}
use Rattle.tokens.specs.Numbers.{front, decimal, allowed, numbered, unsigned, token, first_word}

-- ---- the digits at the front

-- the library's test for a digit
pub digit_test : (b : ℕ) → within 48 57 b ≡ is_ascii_digit b
unfolding within every
digit_test b = refl

module _ (s : List ℕ) (i : ℕ) (h : i < length s) where
  here : drop i s ≡ get_or s i 0 ∷ drop (i + 1) s
  here = drop-cons s i 0 h ∙ ap (λ (j : ℕ). get_or s i 0 ∷ drop j s) (sym (add-one i))

  pub front_digit : within 48 57 (get_or s i 0) ≡ true → front (drop i s) ≡ get_or s i 0 ∷ front (drop (i + 1) s)
  unfolding front
  front_digit e = rw (here, e)

  pub front_other : within 48 57 (get_or s i 0) ≡ false → front (drop i s) ≡ []
  unfolding front
  front_other e = rw (here, e)

pub front_none : (s : List ℕ) (i : ℕ) → length s ≤ i → front (drop i s) ≡ []
unfolding front
front_none s i h = rw (drop_of_length-le s {i = i} h)

-- of the first k bytes, fewer than k are digits: these are all
pub front_short : (k : ℕ) (xs : List ℕ) → length (front (take k xs)) < k → front (take k xs) ≡ front xs
unfolding front
front_short zero xs h = absurd (omega arith)
front_short (suc k) [] h = refl
front_short (suc k) (b ∷ bs) h = go (within 48 57 b) (front_short k bs) h
  where
    go : (t : Bool) → (length (front (take k bs)) < k → front (take k bs) ≡ front bs)
        → length (cond t (b ∷ front (take k bs)) []) < suc k → cond t (b ∷ front (take k bs)) [] ≡ cond t (b ∷ front bs) []
    go true rest h = ap (λ (l : List ℕ). b ∷ l) (rest (omega arith))
    go false rest h = refl

pub front_most : (k : ℕ) (xs : List ℕ) → length (front (take k xs)) ≤ length (front xs)
unfolding front
front_most zero xs = omega arith
front_most (suc k) [] = omega arith
front_most (suc k) (b ∷ bs) = go (within 48 57 b) (front_most k bs)
  where
    go : (t : Bool) → length (front (take k bs)) ≤ length (front bs) → length (cond t (b ∷ front (take k bs)) []) ≤ length
        (cond t (b ∷ front bs) [])
    go true h = omega arith
    go false h = omega arith

front_length : (xs : List ℕ) → length (front xs) ≤ length xs
unfolding front
front_length [] = omega arith
front_length (b ∷ bs) = go (within 48 57 b) (front_length bs)
  where
    go : (t : Bool) → length (front bs) ≤ length bs → length (cond t (b ∷ front bs) []) ≤ suc (length bs)
    go true h = omega arith
    go false h = omega arith

front_head : (xs : List ℕ) → 0 < length (front xs) → num (front xs) 0 ≡ num xs 0
unfolding front
front_head [] h = absurd (omega arith)
front_head (b ∷ bs) h = go (within 48 57 b) h
  where
    go : (t : Bool) → 0 < length (cond t (b ∷ front bs) []) → num (cond t (b ∷ front bs) []) 0 ≡ b
    go true h = refl
    go false h = absurd (omega arith)

-- ---- what digits write

-- the scan at i: what is left of the digits, behind v
module _ (s : List ℕ) (i v : ℕ) (left : length (front s) ≡ i + length (front (drop i s)))
    (writes : decimal 0 (front s) ≡ decimal v (front (drop i s))) where
  pub scan_ends : front (drop i s) ≡ [] → (i ≡ length (front s)) × (v ≡ decimal 0 (front s))
  unfolding decimal
  scan_ends e = (omega (arith, ap length e), sym (writes ∙ ap (decimal v) e))

  pub scan_on : {d : ℕ} → front (drop i s) ≡ d ∷ front (drop (i + 1) s)
      → (length (front s) ≡ i + 1 + length (front (drop (i + 1) s)))
      × (decimal 0 (front s) ≡ decimal (v * 10 + (d - 48)) (front (drop (i + 1) s)))
  unfolding decimal
  scan_on e = (omega (arith, ap length e), writes ∙ ap (decimal v) e)

pub one_digit_more : (j : ℕ) → 10 ^ (j + 1) ≡ 10 * 10 ^ j
one_digit_more j = ap (λ (n : ℕ). 10 ^ n) (add-one j) ∙ pow-suc 10 j ∙ omega arith

-- ---- which digits are allowed

allowed_none : (ds : List ℕ) → length ds ≡ 0 → allowed ds ≡ false
unfolding allowed
allowed_none ds h = rw (within_under 1 7 (length ds) (omega arith))

allowed_long : (ds : List ℕ) → 7 < length ds → allowed ds ≡ false
unfolding allowed
allowed_long ds h = rw (within_over 1 7 (length ds) h)

allowed_zero : (ds : List ℕ) → num ds 0 ≡ 48 → 1 < length ds → allowed ds ≡ false
unfolding allowed
allowed_zero ds e h = rw (eq-eqb (num ds 0) 48 e, ne_eqb (length ds) 1 (λ z. omega arith)) (and_no (within 1 7 (length ds)))

allowed_is : (ds : List ℕ) → 0 < length ds → length ds ≤ 7 → (num ds 0 ≡ 48 → length ds ≤ 1) → allowed ds ≡ true
unfolding allowed
allowed_is ds h l e = rw (within_is 1 7 (length ds) h l) (go (ℕ_discrete (num ds 0) 48))
  where
    go : Dec (num ds 0 ≡ 48) → (not (eqb (num ds 0) 48) || eqb (length ds) 1) ≡ true
    go (yes p) = rw (eq-eqb (num ds 0) 48 p, eq-eqb (length ds) 1 (omega (arith, e p)))
    go (no p) = rw (ne_eqb (num ds 0) 48 p)

-- ---- a number behind its sign

same_test : (a b x y : ℕ) → (a ≡ b → x ≡ y) → (x ≡ y → a ≡ b) → eqb a b ≡ eqb x y
same_test a b x y f g = go (ℕ_discrete a b)
  where
    go : Dec (a ≡ b) → eqb a b ≡ eqb x y
    go (yes e) = eq-eqb a b e ∙ sym (eq-eqb x y (f e))
    go (no e) = ne_eqb a b e ∙ sym (ne_eqb x y (λ k. e (g k)))

unsigned_bad : (on : Bool) (xs : List ℕ) → allowed (front xs) ≡ false → Bad ≡ unsigned on xs
unfolding unsigned
unsigned_bad on xs h = rw h

unsigned_value : (on : Bool) (xs : List ℕ) → allowed (front xs) ≡ true
    → numbered on (decimal 0 (front xs)) (eqb (length (front xs)) (length xs)) ≡ unsigned on xs
unfolding unsigned
unsigned_value on xs h = rw h

-- ---- the bytes up to a space: a space is no digit, so the digits at their front are those at the front of all

front_word : (n : ℕ) (xs : List ℕ) → front (take n (up_to 32 xs)) ≡ front (take n xs)
unfolding front up_to
front_word zero xs = refl
front_word (suc n) [] = refl
front_word (suc n) (b ∷ bs) = go (ℕ_discrete b 32) (front_word n bs)
  where
    go : Dec (b ≡ 32) → front (take n (up_to 32 bs)) ≡ front (take n bs)
        → front (take (suc n) (cond (eqb b 32) [] (b ∷ up_to 32 bs))) ≡ cond (within 48 57 b) (b ∷ front (take n bs)) []
    go (yes e) rest = rw (eq-eqb b 32 e, within_under 48 57 b (omega arith))
    go (no e) rest = rw (ne_eqb b 32 e) (ap (λ (l : List ℕ). cond (within 48 57 b) (b ∷ l) []) rest)

-- the space is looked for behind the digits
up_digits : (n : ℕ) (xs : List ℕ) → length (up_to 32 xs)
    ≡ length (front (take n xs)) + length (up_to 32 (drop (length (front (take n xs))) xs))
unfolding front up_to
up_digits zero xs = omega arith
up_digits (suc n) [] = omega arith
up_digits (suc n) (b ∷ bs) = go (within 48 57 b) (is_within 48 57 b) (up_digits n bs)
  where
    ds : List ℕ
    ds = front (take n bs)

    go : (t : Bool) → (t ≡ true → (48 ≤ b) × (b ≤ 57)) → length (up_to 32 bs) ≡ length ds + length (up_to 32 (drop (length ds) bs))
        → length (up_to 32 (b ∷ bs)) ≡ length (cond t (b ∷ ds) []) + length (up_to 32 (drop (length (cond t (b ∷ ds) [])) (b ∷ bs)))
    go true d h = let not : b ≡ 32 → ⊥ = λ e. omega (arith, d refl) in rw (ne_eqb b 32 not) (omega arith)
    go false d h = omega arith

up_head : (k : ℕ) (xs : List ℕ) → 0 < length (up_to k xs) → num (up_to k xs) 0 ≡ num xs 0
unfolding up_to
up_head k [] h = refl
up_head k (b ∷ bs) h = go (eqb b k) h
  where
    go : (t : Bool) → 0 < length (cond t [] (b ∷ up_to k bs)) → num (cond t [] (b ∷ up_to k bs)) 0 ≡ b
    go true h = absurd (omega arith)
    go false h = refl

-- n and v are how many digits the first m bytes begin with, which are at most eight, and what these write; behind them a space or the
-- end stands k bytes on
module _ (on : Bool) (rest : List ℕ) (m n v k : ℕ) (few : m ≡ min (length rest) 8) (count : n ≡ length (front (take m rest)))
    (is : v ≡ decimal 0 (front (take m rest))) (far : k ≡ length (up_to 32 (take (length rest - n) (drop n rest)))) where
  abbrev w : List ℕ
  w = up_to 32 rest

  abbrev eight : List ℕ
  eight = take m rest

  x : ℕ
  x = n + k

  first : eight ≡ take 8 rest
  first = ap (λ (j : ℕ). take j rest) (few ∙ omega arith) ∙ take_min 8 rest

  space : x ≡ n + length (up_to 32 (drop n rest))
  unfolding x
  space = ap (λ (j : ℕ). n + j) (far ∙ ap (λ (l : List ℕ). length (up_to 32 l)) (take_rest rest n))

  digits8 : front eight ≡ front (take 8 w)
  digits8 = ap front first ∙ sym (front_word 8 rest)

  count8 : n ≡ length (front (take 8 w))
  count8 = count ∙ ap length digits8

  pub word_ends : n + k ≡ length w
  unfolding x
  word_ends =
      let e : n ≡ length (front (take 8 rest)) = count ∙ ap (λ (l : List ℕ). length (front l)) first in
      space ∙ omega (arith, up_digits 8 rest, ap (λ (j : ℕ). length (up_to 32 (drop j rest))) e)

  all : n ≤ 7 → front eight ≡ front w
  all h = digits8 ∙ front_short 8 w (omega (arith, count8))

  counts : n ≤ 7 → n ≡ length (front w)
  counts h = count ∙ ap length (all h)

  head : 0 < n → num (front w) 0 ≡ num rest 0
  head h =
      let some = front_most 8 w in
      let within_word = front_length w in
      front_head w (omega (arith, count8)) ∙ up_head 32 rest (omega (arith, count8))

  -- the token where the digits are allowed, and where they are not
  pub a_number : 1 ≤ n → n ≤ 7 → (num rest 0 ≡ 48 → n ≡ 1) → numbered on v (eqb n (n + k)) ≡ unsigned on w
  unfolding x
  a_number some small z =
      let l = length (front w) in
      let c = counts small in
      let zero : num (front w) 0 ≡ 48 → l ≤ 1 = λ p. omega (arith, z (sym (head some) ∙ p)) in
      let ends : eqb n (n + k) ≡ eqb l (length w) =
      same_test n (n + k) l (length w) (λ p. omega (arith, word_ends)) (λ p. omega (arith, word_ends)) in
      rw (ends, is, all small) (unsigned_value on w (allowed_is (front w) (omega arith) (omega arith) zero))

  pub no_number : (1 ≤ n → n ≤ 7 → (num rest 0 ≡ 48) × (n ≡ 1 → ⊥)) → Bad ≡ unsigned on w
  no_number h = unsigned_bad on w (go (dec_lt 0 n) (dec_lt 7 n))
    where
      go : Dec (0 < n) → Dec (7 < n) → allowed (front w) ≡ false
      go (no z) l = allowed_none (front w) (omega (arith, z, counts (omega (arith, z))))
      go (yes z) (yes l) = allowed_long (front w) (omega (arith, count8, front_most 8 w))
      go (yes z) (no l) =
          let (e, ne) = h z (omega (arith, l)) in
          allowed_zero (front w) (head z ∙ e) (omega (arith, count8, front_most 8 w, ne))

-- ---- a word of a line

same_fields : (r q : FirstWord) → r.token ≡ q.token → r.length ≡ q.length → r ≡ q
same_fields r q t e = λ i. record { token = t i; length = e i }

-- the library's test for `-`
abbrev has_minus : List ℕ → Bool
has_minus rest = pointwise eqb (take 1 rest) (45 ∷ [])

pub minus_word : (r : FirstWord) (rest digits : List ℕ) → has_minus rest ≡ true → digits ≡ drop 1 rest
    → r.token ≡ unsigned false (up_to 32 digits) → r.length ≡ 1 + length (up_to 32 digits) → r ≡ first_word rest
unfolding token up_to first_word
minus_word r [] digits h e t x = absurd (true≢false (sym h))
minus_word r (b ∷ bs) digits h e t x =
    let minus : b ≡ 45 = eqb-true b 45 (and_left _ _ h) in
    let word : eqb b 32 ≡ false = ne_eqb b 32 (λ p. omega arith) in
    same_fields r _ (t ∙ sym (rw (word, eq-eqb b 45 minus, e))) (x ∙ sym (rw (word, e) (omega arith)))

pub plain_word : (r : FirstWord) (rest : List ℕ) → has_minus rest ≡ false → r.token ≡ unsigned true (up_to 32 rest)
    → r.length ≡ length (up_to 32 rest) → r ≡ first_word rest
unfolding token up_to first_word front
plain_word r [] h t x = same_fields r _ (t ∙ sym (unsigned_bad true [] (allowed_none [] refl))) x
plain_word r (b ∷ bs) h t x = same_fields r _ (t ∙ no_sign (eqb b 32)) x
  where
    no_minus : eqb b 45 ≡ false
    no_minus = go (eqb b 45) h
      where
        go : (c : Bool) → (c && true) ≡ false → c ≡ false
        go true q = q
        go false q = q

    cut_at : Bool → List ℕ
    cut_at c = cond c [] (b ∷ up_to 32 bs)

    no_sign : (c : Bool) → unsigned true (cut_at c) ≡ token (cut_at c)
    no_sign true = sym (unsigned_bad true [] (allowed_none [] refl))
    no_sign false = rw no_minus
