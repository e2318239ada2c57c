-- A name of a lemma (document 01, 'The job text'), looked up among the steps and then among the variables.
use Rattle.std.specs.Prelude.{◌≡◌, ℕ, ◌+◌, cond, ◌&&◌, Option, Some, None, List, leb, length}
use Rattle.lists.specs.Tests.{within}
use Rattle.job.specs.Limits.{max_steps}
use Rattle.job.specs.declared.Job.{Job}
use Rattle.scan.specs.Bytes.{word_at}
use Rattle.scan.specs.Names.{lookup}
use Rattle.fields.specs.declared.Cursor.{Cursor}
use Rattle.items.specs.declared.Name.{Name}
use Rattle.items.specs.declared.Names.{Names}

-- those of a job
abbrev pub AreNamesOf : Job → Names → Type 0
AreNamesOf j n =
    (n.labels.now ≡ j.labels) × (n.names.now ≡ j.names) × (n.steps ≡ j.program.steps) × (n.variables ≡ j.program.variables)

-- 'item c is step c up to m, then variables'
abbrev pub named_at : Option ℕ → Option ℕ → ℕ → Option ℕ
named_at (Some i) v m = Some (i + 1)
named_at None (Some i) m = Some (m + i + 1)
named_at None None m = None

-- a name has 1 to 4 bytes
unfoldable pub named_in : List ℕ → List ℕ → ℕ → ℕ → List ℕ → Option ℕ
named_in labels names m n w = cond (within 1 4 (length w)) (named_at (lookup labels m w) (lookup names n w) m) None

-- a table has at most 100 steps and as many variables: where m or n is more, no name is known
abbrev pub known_in : List ℕ → List ℕ → ℕ → ℕ → List ℕ → Option ℕ
known_in labels names m n w = cond (leb m max_steps && leb n max_steps) (named_in labels names m n w) None

-- the name ends at a space or the line's end, and the cursor moves on to there
unfoldable pub item_field : List ℕ → List ℕ → ℕ → ℕ → List ℕ → Cursor → Name
item_field labels names m n s at =
    let w = word_at 32 s at.column in
    record { named = known_in labels names m n w; at = record { line = at.line; column = at.column + length w } }
