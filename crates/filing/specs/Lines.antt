-- The lines of a form (document 02, S-1) as the code puts them, each part whole, where there is room for it.
use Rattle.std.specs.Prelude.{cond, List, [], ◌∷◌, ◌++◌, map, ℕ, zero, suc, length}
use Rattle.put.specs.declared.Page.{Page}
use Rattle.put.specs.Put.{HasRoom, Puts}
use Rattle.job.specs.declared.Job.{Job}
use Rattle.job.specs.Literals.{Clause}
use Rattle.program.specs.ProgramLine.{is_comment}
use Rattle.form.specs.Form.{lemma_text, ended}

-- the part has room behind what the page holds
abbrev pub HasRoomFor : Page → List ℕ → Type 0
HasRoomFor page part = HasRoom page (length part)

-- and is put there
abbrev pub PutsAll : Page → Page → List ℕ → Type 0
PutsAll old new part = Puts (length part) old new part

-- a line before `lemmas`: 'comments dropped'
unfoldable pub kept_text : List ℕ → List ℕ
kept_text line = cond (is_comment line) [] (line ++ (10 ∷ []))

-- what stands before name i of a lemma's line: 'one space between names'
unfoldable pub gap_text : ℕ → List ℕ
gap_text zero = []
gap_text (suc i) = 32 ∷ []

module _ (J : Job) where
  -- a lemma's line, with its LF
  abbrev pub lemma_line : Clause → List ℕ
  lemma_line lemma = lemma_text J lemma ++ (10 ∷ [])

  abbrev pub lemma_lines : List Clause → List ℕ
  lemma_lines lemmas = ended (map (lemma_text J) lemmas)
