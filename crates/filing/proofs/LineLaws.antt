-- Laws of a lemma's line: what is left of it from one of its names on, and of the lines from one of the lemmas on.
use Rattle.std.proofs.Common.{◌≡◌, refl, sym, ap, ◌∙◌, List, [], ◌∷◌, ◌++◌, map, ℕ, zero, suc, ◌+◌, ◌≤◌, ◌<◌}
use Rattle.std.proofs.Common.{length, drop, arith}
use Rattle.std.proofs.Math.ListN.{get_or}
use Rattle.std.proofs.Math.Numerals.{add-one}
use Rattle.std.proofs.lemmas.List.{drop_more, drop_all, get_or-map, length-map, append-nil, append_assoc}
use Rattle.put.specs.declared.Page.{Page}
use Rattle.put.specs.Put.{Adds}
use Rattle.put.proofs.PutLaws.{put_none, put_fits}
use Rattle.job.specs.declared.Job.{Job}
use Rattle.form.specs.Form.{spelt, spaced, lemma_text, ended}
use Rattle.filing.specs.declared.names.Name.{Name}
use Rattle.filing.specs.Names.{literal, clause}
use Rattle.filing.specs.Rows.{Row, clauses}
use Rattle.filing.specs.Lines.{HasRoomFor, PutsAll, gap_text, lemma_line, lemma_lines}

-- ---- what stands before a name

pub gap_none : (page : Page) (i : ℕ) → i ≡ 0 → PutsAll page page (gap_text i)
unfolding gap_text
gap_none page i e = rw e (put_none page)

pub gap_space : {old new : Page} (i : ℕ) → (i ≡ 0 → ⊥) → Adds old new (32 ∷ []) → HasRoomFor old (gap_text i) → PutsAll old new (gap_text i)
unfolding gap_text
gap_space zero e p room = absurd (e refl)
gap_space (suc i) e p room = put_fits p room

-- ---- words, each behind a space

unfoldable pub behind : List (List ℕ) → List ℕ
behind [] = []
behind (w ∷ ws) = 32 ∷ (w ++ behind ws)

spaced_first : (w : List ℕ) (ws : List (List ℕ)) → spaced (w ∷ ws) ≡ w ++ behind ws
unfolding spaced behind
spaced_first w [] = sym (append-nil w)
spaced_first w (v ∷ vs) = ap (λ r. w ++ (32 ∷ r)) (spaced_first v vs)

unfoldable pub words_from : ℕ → List (List ℕ) → List ℕ
words_from zero ws = spaced ws
words_from (suc i) ws = behind (drop (suc i) ws)

words_next : (i : ℕ) (ws : List (List ℕ)) → i < length ws → words_from i ws ≡ gap_text i ++ (get_or ws i [] ++ words_from (i + 1) ws)
unfolding words_from gap_text behind
words_next zero [] h = absurd (omega arith)
words_next zero (w ∷ ws) h = spaced_first w ws
words_next (suc i) ws h =
    let e = add-one (suc i) in
    let next : drop (suc i) ws ≡ get_or ws (suc i) [] ∷ drop (suc i + 1) ws = drop_more ws (suc i) [] h in
    rw e (ap behind (rw e at next))

words_none : (i : ℕ) (ws : List (List ℕ)) → length ws ≤ i → words_from i ws ≡ []
unfolding words_from behind spaced
words_none zero [] h = refl
words_none zero (w ∷ ws) h = absurd (omega arith)
words_none (suc i) ws h = ap behind (drop_all (suc i) ws h)

-- ---- a line from name i on, its LF with it

module _ (J : Job) (names : List Name) where
  abbrev pub line_from : ℕ → List ℕ
  line_from i = words_from i (map (spelt J) (clause names)) ++ (10 ∷ [])

  pub line_next : (i : ℕ) (d : Name) → i < length names
      → line_from i ≡ gap_text i ++ (spelt J (literal (get_or names i d)) ++ line_from (i + 1))
  line_next i d h =
      let words = map (spelt J) (clause names) in
      let w = spelt J (literal (get_or names i d)) in
      let word : get_or words i [] ≡ w =
      get_or-map (spelt J) (clause names) i (literal d) [] (omega (arith, length-map names literal))
      ∙ ap (spelt J) (get_or-map literal names i d (literal d) h) in
      let within : i < length words = omega (arith, length-map (clause names) (spelt J), length-map names literal) in
      ap (λ l. l ++ (10 ∷ [])) (words_next i words within ∙ ap (λ v. gap_text i ++ (v ++ words_from (i + 1) words)) word)
      ∙ append_assoc (gap_text i) (w ++ words_from (i + 1) words) (10 ∷ [])
      ∙ ap (λ l. gap_text i ++ l) (append_assoc w (words_from (i + 1) words) (10 ∷ []))

  pub line_ends : (i : ℕ) → length names ≤ i → line_from i ≡ (10 ∷ [])
  line_ends i h = ap (λ l. l ++ (10 ∷ [])) (words_none i (map (spelt J) (clause names))
      (omega (arith, length-map (clause names) (spelt J), length-map names literal)))

-- ---- the lines from lemma k on

module _ (J : Job) (rows : List Row) where
  abbrev pub lines_from : ℕ → List ℕ
  lines_from k = lemma_lines J (clauses (drop k rows))

  pub lines_next : (k : ℕ) (d : Row) → k < length rows
      → lines_from k ≡ lemma_line J (clause (get_or rows k d).items) ++ lines_from (k + 1)
  unfolding ended
  lines_next k d h = ap (λ l. lemma_lines J (clauses l)) (drop_more rows k d h)
      ∙ sym (append_assoc (lemma_text J (clause (get_or rows k d).items)) (10 ∷ []) (lines_from (k + 1)))

  pub lines_end : (k : ℕ) → length rows ≤ k → lines_from k ≡ []
  unfolding ended
  lines_end k h = ap (λ l. lemma_lines J (clauses l)) (drop_all k rows h)
