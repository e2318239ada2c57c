-- Laws of lemmas: the words of a line, the item of a name, and one law for each way out of a lemma line.
use mathlib.Core.Path.{◌≡◌, refl, sym, ap, ◌∙◌, subst}
use mathlib.Core.Bool.{Bool, true, false, cond, and-true}
use mathlib.Core.List.{List, [], ◌∷◌}
use Rattle.std.specs.Prelude.{Option, Some, None, Result, Ok, Err}
use Prim.Native.Nat.{ℕ, suc, ◌+◌, ◌-◌, ◌≤◌, ◌<◌}
use native.Mathlib.Omega.{arith}
use native.Mathlib.Decide.{dec_lt}
use native.Mathlib.Numerals.{add-one}
use borrow.Author.Tests.{ne_eqb, le-leb, lt-leb, lt-ltb, le-ltb}
use lib.Dec.{eqb, leb, ltb}
use lib.ListN.{length, get_or, take, drop, length-drop, drop_of_length-le}
use lib.Seq.{drop-cons, drop-drop, take_all}
use Rattle.lists.specs.Rows.{num}
use Rattle.lists.specs.Tests.{within}
use Rattle.lists.specs.Pieces.{cut, up_to, starts}
use Rattle.lists.proofs.PieceLaws.{length_up_to, take_up_to, drop_up_to, cut_all, cut_first}
use Rattle.job.specs.Limits.{max_steps, max_lemmas, max_names}
use Rattle.job.specs.declared.Program.{Program}
use Rattle.job.specs.declared.Job.{Job}
use Rattle.job.specs.declared.refusal.Fault.{Fault}
use Rattle.job.specs.declared.refusal.Fault.TheVariants.{NameUnknown, ManyNames}
use Rattle.job.specs.declared.refusal.Refusal.{Refusal}
use Rattle.scan.specs.Bytes.{word_at}
use Rattle.scan.specs.Lines.{Row, row, lines}
use Rattle.scan.specs.Names.{lookup}
use Rattle.scan.proofs.NameLaws.{lookup_below}
use Rattle.scan.proofs.WordLaws.{word_length}
use Rattle.scan.proofs.LineLaws.{lines_first}
use Rattle.fields.specs.Fields.{whole_line}
use Rattle.items.specs.Items.{named_at, named_in, known_in, item_field}
use Rattle.items.specs.declared.Name.{Name}
use Rattle.parse.specs.Answers.{refuse, then}
use Rattle.parse.specs.Lemmas.{word, filled, words, bare, negated, item_in, signed, with_item, named, lemma}
use Rattle.parse.specs.Lemmas.{whole, lemma_line, lemma_lines}
use Rattle.parse.proofs.AnswerLaws.{Holds, cond_holds, then_holds}

-- ---- words

spaced : (bs : List ℕ) → words (32 ∷ bs) ≡ words bs
unfolding words filled cut
spaced bs = refl

module _ (s : List ℕ) (at : ℕ) (l : at < length s) where
  pub words_space : get_or s at 0 ≡ 32 → words (drop at s) ≡ words (drop (suc at) s)
  words_space h = rw (drop-cons s at 0 l, h) (spaced (drop (suc at) s))

word_on : (p : List ℕ) (ws : List (List ℕ)) → 0 < length p → word p ws ≡ p ∷ ws
word_on [] ws h = absurd (omega arith)
word_on (b ∷ bs) ws h = refl

up_some : (b : ℕ) (bs : List ℕ) → (b ≡ 32 → ⊥) → 0 < length (up_to 32 (b ∷ bs))
unfolding up_to
up_some b bs h = rw (ne_eqb b 32 h) (omega arith)

-- a word ends at a space, or with the line
word_first : (xs : List ℕ) → 0 < length (up_to 32 xs) → words xs ≡ up_to 32 xs ∷ words (drop (length (up_to 32 xs)) xs)
unfolding words filled cut
word_first xs some = go (dec_lt (length (up_to 32 xs)) (length xs))
  where
    go : Dec (length (up_to 32 xs) < length xs) → filled (cut 32 xs) ≡ up_to 32 xs ∷ filled (cut 32 (drop (length (up_to 32 xs)) xs))
    go (yes l) =
        let rest = drop (suc (length (up_to 32 xs))) xs in
        ap filled (cut_first 32 xs l)
        ∙ ap (λ p. word p (filled (cut 32 rest))) (take_up_to 32 xs)
        ∙ word_on (up_to 32 xs) (filled (cut 32 rest)) some
        ∙ ap (λ l. up_to 32 xs ∷ filled (cut 32 l)) (sym (drop_up_to 32 xs l))
    go (no l) =
        let all : length (up_to 32 xs) ≡ length xs = omega (arith, length_up_to 32 xs) in
        let same : up_to 32 xs ≡ xs = sym (take_up_to 32 xs) ∙ take_all (length (up_to 32 xs)) xs (omega arith) in
        let none = drop_of_length-le xs {i = length (up_to 32 xs)} (omega arith) in
        ap filled (cut_all 32 xs all) ∙ word_on xs [] (omega arith) ∙ rw (none, same)

pub words_word : (s : List ℕ) (at e : ℕ) → at < length s → (get_or s at 0 ≡ 32 → ⊥) → e ≡ at + length (word_at 32 s at)
    → words (drop at s) ≡ word_at 32 s at ∷ words (drop e s)
words_word s at e l h k =
    let d : drop at s ≡ get_or s at 0 ∷ drop (suc at) s = drop-cons s at 0 l in
    word_first (drop at s) (rw d (up_some (get_or s at 0) (drop (suc at) s) h))
    ∙ ap (λ (t : List ℕ). word_at 32 s at ∷ words t) (drop-drop (length (word_at 32 s at)) at s ∙ ap (λ (n : ℕ). drop n s) (sym k))

pub words_end : (s : List ℕ) (at : ℕ) → length s ≤ at → words (drop at s) ≡ []
unfolding words filled cut
words_end s at h = ap words (drop_of_length-le s {i = at} h)

-- ---- a name of a lemma

-- a table within the limits knows its names
in_limits : (j : Job) (w : List ℕ) → j.program.steps ≤ max_steps → j.program.variables ≤ max_steps
    → known_in j.labels j.names j.program.steps j.program.variables w ≡ item_in j w
in_limits j w h k = rw (le-leb j.program.steps max_steps h, le-leb j.program.variables max_steps k)

-- the byte at at begins a word
module _ (s : List ℕ) (at : ℕ) (l : at < length s) (k : num s at ≡ 32 → ⊥) where
  word_cons : word_at 32 s at ≡ num s at ∷ word_at 32 s (suc at)
  unfolding up_to
  word_cons = rw (drop-cons s at 0 l, ne_eqb (get_or s at 0) 32 k)

  pub sign_word : negated (word_at 32 s at) ≡ eqb (num s at) 126
  unfolding starts
  sign_word = ap negated word_cons ∙ and-true (eqb (num s at) 126)

  pub word_ends : (e : ℕ) → e ≡ at + length (word_at 32 s at) → (at < e) × (e ≤ length s)
  word_ends e h = (omega (arith, h, ap (λ (w : List ℕ). length w) word_cons), omega (arith, h, word_length 32 s at))

  -- behind its `~`, if there is one, stands the name, and both end at one place
  module _ (from : ℕ) (h : from ≡ cond (eqb (num s at) 126) (at + 1) at) where
    bare_word : word_at 32 s from ≡ bare (word_at 32 s at)
    unfolding bare
    bare_word = ap (word_at 32 s) h ∙ go (eqb (num s at) 126) ∙ sym (ap bare word_cons)
      where
        go : (t : Bool) → word_at 32 s (cond t (at + 1) at) ≡ cond t (word_at 32 s (suc at)) (num s at ∷ word_at 32 s (suc at))
        go true = ap (word_at 32 s) (add-one at)
        go false = word_cons

    bare_end : from + length (word_at 32 s from) ≡ at + length (word_at 32 s at)
    bare_end = ap (λ (n : ℕ). n + length (word_at 32 s n)) h ∙ go (eqb (num s at) 126)
      where
        go : (t : Bool) → cond t (at + 1) at + length (word_at 32 s (cond t (at + 1) at)) ≡ at + length (word_at 32 s at)
        go true = omega (arith, ap (λ (n : ℕ). length (word_at 32 s n)) (add-one at), ap (λ (w : List ℕ). length w) word_cons)
        go false = refl

    -- what the field is there, in a table within the limits
    module _ (j : Job) (line : ℕ) (r : Name) (e : r ≡ item_field j.labels j.names j.program.steps j.program.variables s
        (record { line = line; column = from })) where
      pub name_is : j.program.steps ≤ max_steps → j.program.variables ≤ max_steps → r.named ≡ item_in j (bare (word_at 32 s at))
      unfolding item_field
      name_is m n =
          ap (λ (y : Name). y.named) e
          ∙ in_limits j (word_at 32 s from) m n
          ∙ ap (named_in j.labels j.names j.program.steps j.program.variables) bare_word

      pub name_end : r.at.column ≡ at + length (word_at 32 s at)
      unfolding item_field
      name_end = ap (λ (y : Name). y.at.column) e ∙ bare_end

-- an item that is named is one of w
abbrev pub OneOf : ℕ → Option ℕ → Type 0
OneOf w (Some i) = (0 < i) × (i ≤ w)
OneOf w None = Unit {0}

pub item_one : (j : Job) (w : List ℕ) → OneOf (j.program.steps + j.program.variables) (item_in j w)
unfolding named_in
item_one j w =
    let m = j.program.steps in
    let n = j.program.variables in
    go m n (within 1 4 (length w)) (lookup j.labels m w) (lookup j.names n w)
    (lookup_below j.labels m w) (lookup_below j.names n w)
  where
    go : (m n : ℕ) (b : Bool) (f g : Option ℕ) → ((i : ℕ) → f ≡ Some i → i < m) → ((i : ℕ) → g ≡ Some i → i < n)
        → OneOf (m + n) (cond b (named_at f g m) None)
    go m n false f g p q = tt
    go m n true (Some i) g p q = (omega arith, omega (arith, p i refl))
    go m n true None (Some i) p q = (omega arith, omega (arith, q i refl))
    go m n true None None p q = tt

pub item_within : (j : Job) (w : List ℕ) (i : ℕ) → item_in j w ≡ Some i → (0 < i) × (i ≤ j.program.steps + j.program.variables)
item_within j w i e = subst (OneOf (j.program.steps + j.program.variables)) e (item_one j w)

-- ---- a lemma, name by name

module _ (j : Job) (n k : ℕ) (w : List ℕ) (ws : List (List ℕ)) where
  pub lemma_44 : max_names ≤ k → refuse ManyNames n ≡ lemma j n k (w ∷ ws)
  unfolding lemma then
  lemma_44 h = rw (le-leb max_names k h)

  pub lemma_43 : k < max_names → item_in j (bare w) ≡ None → refuse NameUnknown n ≡ lemma j n k (w ∷ ws)
  unfolding lemma then named
  lemma_43 h e = rw (lt-leb max_names k h, e)

  pub lemma_on : (i : ℕ) → k < max_names → item_in j (bare w) ≡ Some i
      → lemma j n k (w ∷ ws) ≡ lemma (with_item j k (signed (negated w) i)) n (k + 1) ws
  unfolding lemma then named
  lemma_on i h e = rw (lt-leb max_names k h, e)

-- ---- a lemma line, and all

pub lines_none : (j : Job) (n : ℕ) → lemma_lines j n [] ≡ Ok j
unfolding lemma_lines
lines_none j n = refl

pub lines_next : (j : Job) (n : ℕ) (l : Row) (ls : List Row) (r : Result Job Refusal) → r ≡ lemma_line j l (n + 1)
    → lemma_lines j n (l ∷ ls) ≡ then r λ x. lemma_lines x (n + 1) ls
unfolding lemma_lines
lines_next j n l ls r e = rw e

-- the line that begins at at, and ends at e, in the text
lines_at : (text : List ℕ) (at e : ℕ) → at < length text → e ≡ at + length (word_at 10 text at)
    → lines (drop at text) ≡ row (take (e - at) (drop at text)) (ltb e (length text)) ∷ lines (drop (e + 1) text)
lines_at text at e l k =
    let first = lines_first (drop at text) (e - at) (omega (arith, length-drop at text)) (omega arith) in
    let behind : drop (e - at + 1) (drop at text) ≡ drop (e + 1) text =
    drop-drop (e - at + 1) at text ∙ ap (λ (n : ℕ). drop n text) (omega arith) in
    first ∙ rw (behind, ended (dec_lt e (length text))) refl
  where
    ended : Dec (e < length text) → ltb (e - at) (length (drop at text)) ≡ ltb e (length text)
    ended (yes h) = rw (lt-ltb e (length text) h) (lt-ltb (e - at) (length (drop at text)) (omega (arith, length-drop at text)))
    ended (no h) =
        rw (le-ltb e (length text) (omega arith)) (le-ltb (e - at) (length (drop at text)) (omega (arith, length-drop at text)))

pub lines_turn : (j : Job) (n : ℕ) (text : List ℕ) (at e : ℕ) → at < length text → e ≡ at + length (word_at 10 text at)
    → lemma_lines j n (lines (drop at text))
    ≡ then (lemma_line j (row (take (e - at) (drop at text)) (ltb e (length text))) (n + 1))
    λ x. lemma_lines x (n + 1) (lines (drop (e + 1) text))
unfolding lemma_lines
lines_turn j n text at e l k = ap (lemma_lines j n) (lines_at text at e l k)

-- ---- lemmas leave the program as it is

module _ (P : Program) where
  abbrev Same : Job → Type 0
  Same x = x.program ≡ P

  whole_same : (f : Result (Unit {0}) Fault) (n : ℕ) (r : Result Job Refusal) → Holds Same r → Holds Same (whole f n r)
  unfolding whole
  whole_same (Ok _) n r h = h
  whole_same (Err fault) n r h = tt

  named_same : (j : Job) (n k : ℕ) (negative : Bool) (x : Option ℕ) → j.program ≡ P → Holds Same (named j n k negative x)
  unfolding named
  named_same j n k negative (Some i) e = e
  named_same j n k negative None e = tt

  lemma_same : (j : Job) (n k : ℕ) (ws : List (List ℕ)) → j.program ≡ P → Holds Same (lemma j n k ws)
  unfolding lemma
  lemma_same j n k [] e = cond_holds Same (eqb k 0) _ _ (λ _. tt) (λ _. e)
  lemma_same j n k (w ∷ ws) e =
      then_holds Same Same _ _
      (cond_holds Same (leb max_names k) _ _ (λ _. tt) (λ _. named_same j n k (negated w) (item_in j (bare w)) e))
      (λ x h. lemma_same x n (k + 1) ws h)

  pub line_same : (j : Job) (l : Row) (n : ℕ) → j.program ≡ P → Holds Same (lemma_line j l n)
  unfolding lemma_line
  line_same j l n e =
      whole_same (whole_line l) n _ (cond_holds Same (leb max_lemmas j.lemmas) _ _ (λ _. tt) (λ _. lemma_same j n 0 (words l.bytes) e))
