-- The comments of a job text (document 01, 'A job in full'): 'comments after `c `'.
use Rattle.std.specs.Prelude.{cond, List, [], ◌∷◌, ◌++◌, ℕ, drop}
use Rattle.scan.specs.Lines.{Row, lines}
use Rattle.program.specs.ProgramLine.{is_lemmas, is_comment}
use Rattle.text.specs.Bytes.{lf}

-- a comment after `c `; of another line nothing
unfoldable pub remark : List ℕ → List ℕ
remark line = cond (is_comment line) ((99 ∷ 32 ∷ []) ++ line ++ (lf ∷ [])) []

-- of these lines, up to `lemmas`
unfoldable pub remarks : List Row → List ℕ
remarks [] = []
remarks (l ∷ ls) = cond (is_lemmas l.bytes) [] (remark l.bytes ++ remarks ls)

-- of the lines after line 1
unfoldable pub comments : List ℕ → List ℕ
comments text = remarks (drop 1 (lines text))
