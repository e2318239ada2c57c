-- Lemma lines (document 01, 'The job text'): 'A lemma is 1 to 64 names, each with at most one `~`, between any number of spaces.'
use Rattle.std.specs.Prelude.{ℕ, ◌+◌, ◌*◌, Bool, true, false, cond, List, [], ◌∷◌, eqb, leb, ℤ, pos, neg_ℤ, set, Option, Some, None}
use Rattle.std.specs.Prelude.{Result, Ok, Err}
use Rattle.lists.specs.Pieces.{Pieces, last, piece, cut, starts}
use Rattle.job.specs.Limits.{max_lemmas, max_names}
use Rattle.job.specs.declared.Job.{Job}
use Rattle.scan.specs.Lines.{Row}
use Rattle.fields.specs.Fields.{whole_line}
use Rattle.items.specs.Items.{named_in}
use Rattle.job.specs.declared.refusal.Fault.{Fault}
use Rattle.job.specs.declared.refusal.Fault.TheVariants.{ManyLemmas, LemmaEmpty, NameUnknown, ManyNames}
use Rattle.job.specs.declared.refusal.Refusal.{Refusal}
use Rattle.parse.specs.Answers.{refuse, then}

-- ---- words

abbrev pub word : List ℕ → List (List ℕ) → List (List ℕ)
word [] ws = ws
word (b ∷ bs) ws = (b ∷ bs) ∷ ws

-- the pieces that are not empty
unfoldable pub filled : Pieces → List (List ℕ)
filled (last p) = word p []
filled (piece p ps) = word p (filled ps)

-- the words of a line, 'between any number of spaces'
unfoldable pub words : List ℕ → List (List ℕ)
words line = filled (cut 32 line)

-- ---- names

-- the name behind 'at most one `~`'
unfoldable pub bare : List ℕ → List ℕ
bare [] = []
bare (b ∷ bs) = cond (eqb b 126) bs (b ∷ bs)

abbrev pub negated : List ℕ → Bool
negated w = starts (126 ∷ []) w

-- what it names among the job's steps and variables
abbrev pub item_in : Job → List ℕ → Option ℕ
item_in j w = named_in j.labels j.names j.program.steps j.program.variables w

abbrev pub signed : Bool → ℕ → ℤ
signed true i = neg_ℤ (pos i)
signed false i = pos i

-- ---- one lemma

-- name k of the lemma that is read
abbrev pub with_item : Job → ℕ → ℤ → Job
with_item j k z = record j { items = set j.items (j.lemmas * max_names + k) z }

-- it has k names
abbrev pub closed : Job → ℕ → Job
closed j k = record j { lemmas = j.lemmas + 1; lengths = set j.lengths j.lemmas k }

-- the item is entered with its sign; 43 'name unknown'
unfoldable pub named : Job → ℕ → ℕ → Bool → Option ℕ → Result Job Refusal
named j n k negative (Some i) = Ok (with_item j k (signed negative i))
named j n k negative None = refuse NameUnknown n

-- the names from name k on: '44 comes before that name is looked up'; 42 'lemma empty'
unfoldable pub lemma : Job → ℕ → ℕ → List (List ℕ) → Result Job Refusal
lemma j n k [] = cond (eqb k 0) (refuse LemmaEmpty n) (Ok (closed j k))
lemma j n k (w ∷ ws) =
    then (cond (leb max_names k) (refuse ManyNames n) (named j n k (negated w) (item_in j (bare w)))) λ e.
    lemma e n (k + 1) ws

-- ---- all lemmas

-- 2, 3, 4 of line n
unfoldable pub whole : Result (Unit {0}) Fault → ℕ → Result Job Refusal → Result Job Refusal
whole (Ok _) n rest = rest
whole (Err fault) n rest = refuse fault n

-- 41 '101st lemma'
unfoldable pub lemma_line : Job → Row → ℕ → Result Job Refusal
lemma_line j l n = whole (whole_line l) n (cond (leb max_lemmas j.lemmas) (refuse ManyLemmas n) (lemma j n 0 (words l.bytes)))

-- 'then lemma lines (perhaps none) to the end': those after the first n lines
unfoldable pub lemma_lines : Job → ℕ → List Row → Result Job Refusal
lemma_lines j n [] = Ok j
lemma_lines j n (l ∷ ls) = then (lemma_line j l (n + 1)) λ e. lemma_lines e (n + 1) ls
