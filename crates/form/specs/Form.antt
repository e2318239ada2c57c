-- The filing form as a text (document 02, S-1): 'bound and step lines kept in order, comments dropped; in each lemma one space between
-- names'.
use Rattle.std.specs.Prelude.{cond, List, [], ◌∷◌, ◌++◌, map, ℕ, ◌-◌, ltb}
use Rattle.lists.specs.Rows.{tab}
use Rattle.job.specs.declared.Job.{Job}
use Rattle.job.specs.declared.Literal.{Literal}
use Rattle.job.specs.declared.Literal.TheVariants.{On, Off}
use Rattle.job.specs.Literals.{Clause}
use Rattle.job.specs.Table.{lemma}
use Rattle.scan.specs.Lines.{Row, lines}
use Rattle.put.specs.Names.{name_at}
use Rattle.program.specs.ProgramLine.{is_lemmas, is_comment}
use Rattle.form.specs.Lemmas.{filed}

-- ---- the lines up to `lemmas`

unfoldable pub kept : List Row → List (List ℕ)
kept [] = []
kept (l ∷ ls) = cond (is_lemmas l.bytes) [] (cond (is_comment l.bytes) (kept ls) (l.bytes ∷ kept ls))

-- `lemmas`
abbrev pub lemmas_word : List ℕ
lemmas_word = 108 ∷ 101 ∷ 109 ∷ 109 ∷ 97 ∷ 115 ∷ []

-- ---- a lemma's line

-- 'item c is step c up to m, then variables', counted from 0
unfoldable pub name_of : Job → ℕ → List ℕ
name_of J x = cond (ltb x J.program.steps) (name_at J.labels x) (name_at J.names (x - J.program.steps))

unfoldable pub spelt : Job → Literal → List ℕ
spelt J (On x) = name_of J x
spelt J (Off x) = 126 ∷ name_of J x

unfoldable pub spaced : List (List ℕ) → List ℕ
spaced [] = []
spaced (w ∷ []) = w
spaced (w ∷ v ∷ ws) = w ++ (32 ∷ spaced (v ∷ ws))

abbrev pub lemma_text : Job → Clause → List ℕ
lemma_text J l = spaced (map (spelt J) l)

-- ---- the text

abbrev pub lemmas_of : Job → List Clause
lemmas_of J = tab J.lemmas (lemma J)

abbrev pub form_lines : List Row → Job → List (List ℕ)
form_lines rows J = kept rows ++ (lemmas_word ∷ map (lemma_text J) (filed (lemmas_of J)))

-- 'Lines end in LF.'
unfoldable pub ended : List (List ℕ) → List ℕ
ended [] = []
ended (l ∷ ls) = l ++ (10 ∷ ended ls)

-- of a text and its table
unfoldable pub form : List ℕ → Job → List ℕ
form text J = ended (form_lines (lines text) J)
