-- The table while its program is read: a step is entered at its line, a variable where it is first mentioned.
-- L and M stay names, and each step keeps its line, until `lemmas`.
use Rattle.std.specs.Prelude.{ℕ, ◌+◌, ◌*◌, cond, Option, Some, None, List, eqb, length, set, replicate}
use Rattle.std.proofs.Math.Seq.{slice}
use Rattle.lists.specs.Rows.{num}
use Rattle.job.specs.Limits.{max_steps}
use Rattle.job.specs.Fitness.{has_variable, has_other}
use Rattle.scan.specs.Names.{lookup}
use Rattle.lines.specs.StepLine.{code_of}
use Rattle.lines.specs.declared.Step.{Step}
use Rattle.program.specs.declared.Draft.{Draft}

-- name k of a list of names is w, filled up with 0
abbrev pub put4 : List ℕ → ℕ → List ℕ → List ℕ
put4 l k w = set (set (set (set l (k * 4) (num w 0)) (k * 4 + 1) (num w 1)) (k * 4 + 2) (num w 2)) (k * 4 + 3) (num w 3)

-- no step yet, with what line 1 says: a bound and a word
unfoldable pub blank : ℕ → ℕ → Draft
blank r word = record {
  program = record {
    bound = r;
    word = word;
    steps = 0;
    variables = 0;
    process = replicate max_steps 0;
    kind = replicate max_steps 0;
    to = replicate max_steps 0;
    other = replicate max_steps 0;
    variable = replicate max_steps 0;
    value = replicate max_steps 0;
  };
  labels = replicate (4 * max_steps) 0;
  names = replicate (4 * max_steps) 0;
  to = replicate (4 * max_steps) 0;
  other = replicate (4 * max_steps) 0;
  line = replicate max_steps 0;
}

-- ---- V

-- the step that comes next has variable number x of n
abbrev pub with_variable : Draft → List ℕ → ℕ → ℕ → Draft
with_variable d names n x = record d {
  program = record d.program { variables = n; variable = set d.program.variable d.program.steps x };
  names = names;
}

-- a shared variable 'exists by being mentioned': the first of that name, or a new one
unfoldable pub mention_at : Draft → List ℕ → Option ℕ → Draft
mention_at d w (Some i) = with_variable d d.names d.program.variables (i + 1)
mention_at d w None =
    with_variable d (put4 d.names d.program.variables w) (d.program.variables + 1) (d.program.variables + 1)

abbrev pub mention : Draft → List ℕ → Draft
mention d w = mention_at d w (lookup d.names d.program.variables w)

-- ---- the step

-- 'the first A or B (its process)': 1 is A, 2 is B
unfoldable pub process_of : ℕ → ℕ
process_of b = cond (eqb b 65) 1 2

-- where M ends: only an if has one
unfoldable pub other_end : ℕ → ℕ → ℕ
other_end kind len = cond (has_other kind) len 0

-- the step of line n is entered
unfoldable pub enter : Draft → List ℕ → Step → ℕ → Draft
enter d s p n = record d {
  program = record d.program {
    steps = d.program.steps + 1;
    process = set d.program.process d.program.steps (process_of (num s 0));
    kind = set d.program.kind d.program.steps (code_of p.kind);
    value = set d.program.value d.program.steps p.value;
  };
  labels = put4 d.labels d.program.steps (slice 0 p.name s);
  to = put4 d.to d.program.steps (slice p.to p.end s);
  other = put4 d.other d.program.steps (slice p.other (other_end (code_of p.kind) (length s)) s);
  line = set d.line d.program.steps n;
}

unfoldable pub add_step : Draft → List ℕ → Step → ℕ → Draft
add_step d s p n = enter (cond (has_variable (code_of p.kind)) (mention d (slice p.variable p.equals s)) d) s p n
