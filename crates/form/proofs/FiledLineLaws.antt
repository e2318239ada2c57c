-- The lines of the filed lemmas: they are sound, read back as the filed lemmas, and are no longer than the lines that were read.
use mathlib.Core.Path.{◌≡◌, refl, sym, ap, ◌∙◌, subst}
use mathlib.Core.Bool.{true}
use mathlib.Core.Logic.{◌⊎◌, inl, inr}
use mathlib.Core.List.{List, [], ◌∷◌, map}
use Prim.Native.Nat.{ℕ, ◌≤◌}
use native.Mathlib.Omega.{arith}
use lib.ListN.{length, length-map}
use Rattle.fields.specs.Fields.{max_columns}
use Rattle.lists.specs.Tests.{every, within}
use Rattle.lists.proofs.Logic.{and_left, and_right}
use Rattle.lists.proofs.TestLaws.{is_within}
use Rattle.order.specs.Sorting.{sort, In}
use Rattle.order.proofs.MemberLaws.{in_map, map_back}
use Rattle.order.proofs.SortLaws.{in_sort, sort_in}
use Rattle.order.proofs.WeightLaws.{weight, sort_weight, weight_map, weight_length}
use Rattle.job.specs.Limits.{max_names}
use Rattle.job.specs.declared.Job.{Job}
use Rattle.job.specs.declared.Literal.{Literal}
use Rattle.job.specs.Literals.{Clause}
use Rattle.scan.specs.Bytes.{all_of, plain}
use Rattle.scan.specs.Lines.{Row, row}
use Rattle.parse.specs.Lemmas.{words}
use Rattle.form.specs.Lemmas.{before, filed}
use Rattle.form.specs.Form.{spelt, lemma_text}
use Rattle.form.proofs.LiteralLaws.{before_order}
use Rattle.form.proofs.FiledLaws.{in_filed, in_remaining, filed_weight, filed_count}
use Rattle.form.proofs.WrittenLaws.{Free, Word, long, as_rows, words_spaced, length_spaced, spaced_byte, word_byte, words_are}
use Rattle.form.proofs.WrittenLaws.{words_weight, whole_told, whole_is}
use Rattle.form.proofs.SpellingLaws.{literal_of, Known, spelt_back}
use Rattle.form.proofs.LemmaLineLaws.{Sound, AllSound, literals}
use Rattle.form.proofs.ProgramAgainLaws.{rows_long}

-- ---- bytes

abbrev pub Byte : ℕ → Type 0
Byte b = within 32 126 b ≡ true

pub plain_bytes : (s : List ℕ) → plain s ≡ true → (b : ℕ) → In b s → Byte b
unfolding all_of
plain_bytes [] h b x'' = elim x'' [ ]
plain_bytes (x ∷ xs) h b (inl e) = ap (within 32 126) e ∙ and_left (within 32 126 x) (plain xs) h
plain_bytes (x ∷ xs) h b (inr i) = plain_bytes xs (and_right (within 32 126 x) (plain xs) h) b i

bytes_plain : (s : List ℕ) → ((b : ℕ) → In b s → Byte b) → plain s ≡ true
unfolding all_of
bytes_plain [] h = refl
bytes_plain (x ∷ xs) h = rw (h x (inl refl)) (bytes_plain xs (λ b i. h b (inr i)))

no_zero : (b : ℕ) → Byte b → b ≡ 0 → ⊥
no_zero b h e = omega (arith, is_within 32 126 b h)

pub no_lf : (b : ℕ) → Byte b → b ≡ 10 → ⊥
no_lf b h e = omega (arith, is_within 32 126 b h)

module _ (J : Job) where
  -- ---- a literal whose name can be written

  record Writable (z : Literal) : Type 0 where
    word : Word (spelt J z)
    bytes : (b : ℕ) → In b (spelt J z) → Byte b
    known : Known J (spelt J z)
    back : literal_of J (spelt J z) ≡ z

  module _ (l : Row) (S : Sound J l) where
    line_byte : (w : List ℕ) → In w (words l.bytes) → (b : ℕ) → In b w → Byte b
    line_byte w i b j = plain_bytes l.bytes (whole_told l S.whole_line).bytes b (word_byte l.bytes w b i j)

    respelt : (w : List ℕ) → In w (words l.bytes) → spelt J (literal_of J w) ≡ w
    respelt w i = spelt_back J w (λ b j. no_zero b (line_byte w i b j)) (S.known w i)

    -- those of a sound line
    writable : (z : Literal) → In z (literals J l) → Writable z
    writable z i =
        let (w, j, e) = in_map (literal_of J) z (words l.bytes) i in
        let p : w ≡ spelt J z = sym (ap (spelt J) e ∙ respelt w j) in
        record {
          word = subst Word p (words_are l.bytes w j);
          bytes = subst (λ v. (b : ℕ) → In b v → Byte b) p (line_byte w j);
          known = subst (Known J) p (S.known w j);
          back = ap (literal_of J) (sym p) ∙ sym e;
        }

    -- what a line weighs by its names
    names_weight : weight (λ z. long (spelt J z)) (literals J l) ≤ long l.bytes
    names_weight =
        let e = weight_map long (spelt J) (literals J l) in
        let q = ap (weight long) (map_back (literal_of J) (spelt J) (words l.bytes) respelt) in
        omega (arith, words_weight l.bytes)

  -- ---- a lemma that can be written

  record Fits (c : Clause) : Type 0 where
    names : (z : Literal) → In z c → Writable z
    some : 1 ≤ length c
    few : length c ≤ max_names
    short : length (lemma_text J c) ≤ max_columns

  text_long : (c : Clause) → 1 ≤ length c → long (lemma_text J c) ≡ weight (λ z. long (spelt J z)) c
  text_long [] h = absurd (omega arith)
  text_long (z ∷ c) h = length_spaced (spelt J z) (map (spelt J) c) ∙ weight_map long (spelt J) (z ∷ c)

  module _ (c : Clause) (F : Fits c) where
    text_words : words (lemma_text J c) ≡ map (spelt J) c
    text_words = words_spaced (map (spelt J) c) each
      where
        each : (w : List ℕ) → In w (map (spelt J) c) → Word w
        each w i = let (z, j, e) = in_map (spelt J) w c i in subst Word (sym e) (F.names z j).word

    text_byte : (b : ℕ) → In b (lemma_text J c) → Byte b
    unfolding within every
    text_byte b i = go (spaced_byte (map (spelt J) c) b i)
      where
        go : (b ≡ 32) ⊎ ((w : List ℕ) × In w (map (spelt J) c) × In b w) → Byte b
        go (inl e) = ap (within 32 126) e
        go (inr (w, j, k)) = let (z, m, e) = in_map (spelt J) w c j in (F.names z m).bytes b (subst (In b) e k)

    text_free : Free 10 (lemma_text J c)
    text_free b i = no_lf b (text_byte b i)

    text_reads : literals J (row (lemma_text J c) true) ≡ c
    text_reads = ap (map (literal_of J)) text_words ∙ map_back (spelt J) (literal_of J) c (λ z i. (F.names z i).back)

    text_sound : Sound J (row (lemma_text J c) true)
    text_sound =
        let count : length (words (lemma_text J c)) ≡ length c = ap length text_words ∙ length-map c (spelt J) in
        record {
          whole_line = whole_is (lemma_text J c) F.short (bytes_plain (lemma_text J c) text_byte);
          known = λ w i. known w (subst (In w) text_words i);
          some = omega (arith, F.some);
          few = omega (arith, F.few);
        }
      where
        known : (w : List ℕ) → In w (map (spelt J) c) → Known J w
        known w i = let (z, j, e) = in_map (spelt J) w c i in subst (Known J) (sym e) (F.names z j).known

  -- ---- the filed lemmas of sound lines

  sort_some : (c : Clause) → 1 ≤ length c → 1 ≤ length (sort before c)
  sort_some [] h = absurd (omega arith)
  sort_some (x ∷ xs) h = go (sort before (x ∷ xs)) (sort_in before before_order x (x ∷ xs) (inl refl))
    where
      go : (d : Clause) → In x d → 1 ≤ length d
      go [] i = absurd i
      go (y ∷ ys) i = omega arith

  sorted_fits : (l : Row) → Sound J l → Fits (sort before (literals J l))
  sorted_fits l S =
      let c = literals J l in
      let count = length-map (words l.bytes) (literal_of J) in
      let some : 1 ≤ length (sort before c) = sort_some c (omega (arith, S.some)) in
      let long_is = text_long (sort before c) some in
      let shorter = sort_weight (λ z. long (spelt J z)) before c in
      record {
        names = λ z i. writable l S z (in_sort before before_order z c i);
        some = some;
        few = omega (arith, S.few, sort_weight (λ z. 1) before c, weight_length c, weight_length (sort before c));
        short = omega (arith, names_weight l S, (whole_told l S.whole_line).short);
      }

  module _ (rest : List Row) (S : AllSound J rest) where
    abbrev lemmas : List Clause
    lemmas = filed (map (literals J) rest)

    lemma_fits_lem : (c : Clause) → In c lemmas → Fits c
    lemma_fits_lem c i =
        let (k, j, e) = in_filed (map (literals J) rest) c i in
        let (l, m, p) = in_map (literals J) k rest (in_remaining (map (literals J) rest) k j).0 in
        subst Fits (sym (e ∙ ap (sort before) p)) (sorted_fits l (S l m))

    -- the lines that are written
    abbrev pub filed_lines : List (List ℕ)
    filed_lines = map (lemma_text J) (filed (map (literals J) rest))

    pub filed_free : (s : List ℕ) → In s filed_lines → Free 10 s
    filed_free s i = let (c, j, e) = in_map (lemma_text J) s lemmas i in subst (Free 10) (sym e) (text_free c (lemma_fits_lem c j))

    pub filed_sound : AllSound J (as_rows filed_lines)
    filed_sound l i =
        let (s, j, e) = in_map (λ l. row l true) l filed_lines i in
        let (c, k, p) = in_map (lemma_text J) s lemmas j in
        subst (Sound J) (sym (e ∙ ap (λ s. row s true) p)) (text_sound c (lemma_fits_lem c k))

    pub filed_read : map (literals J) (as_rows filed_lines) ≡ lemmas
    filed_read = go lemmas lemma_fits_lem
      where
        go : (cs : List Clause) → ((c : Clause) → In c cs → Fits c) → map (literals J) (as_rows (map (lemma_text J) cs)) ≡ cs
        go [] f = refl
        go (c ∷ cs) f = λ i. text_reads c (f c (inl refl)) i ∷ go cs (λ d j. f d (inr j)) i

    pub filed_fewer : length (as_rows filed_lines) ≤ length rest
    filed_fewer =
        let a = length-map filed_lines (λ l. row l true) in
        let b = length-map lemmas (lemma_text J) in
        let c = length-map rest (literals J) in
        omega (arith, filed_count (map (literals J) rest), weight_length lemmas, weight_length (map (literals J) rest))

    pub filed_shorter : weight long filed_lines ≤ rows_long rest
    unfolding weight
    filed_shorter = omega (arith, texts lemmas (λ c i. (lemma_fits_lem c i).some), filed_weight f (map (literals J) rest), names rest S)
      where
        f : Literal → ℕ
        f z = long (spelt J z)

        texts : (cs : List Clause) → ((c : Clause) → In c cs → 1 ≤ length c) → weight long (map (lemma_text J) cs) ≡ weight (weight f) cs
        texts [] h = refl
        texts (c ∷ cs) h = omega (arith, text_long c (h c (inl refl)), texts cs (λ d i. h d (inr i)))

        names : (ls : List Row) → AllSound J ls → weight (weight f) (map (literals J) ls) ≤ rows_long ls
        names [] S = omega arith
        names (l ∷ ls) S = omega (arith, names_weight l (S l (inl refl)), names ls (λ k i. S k (inr i)))
