-- The group of each time in the bytes of a run, and a line for each time.
use mathlib.Core.Path.{◌≡◌, refl, ap, fun_ext}
use mathlib.Core.Bool.{Bool, true, false, ◌&&◌, cond}
use mathlib.Core.List.{List}
use Prim.Native.Nat.{ℕ, suc, ◌+◌, ◌*◌, ◌≤◌, ◌<◌}
use native.Mathlib.Numerals.{add-one}
use borrow.Author.Tests.{le-leb, lt-leb}
use lib.Dec.{leb}
use lib.ListN.{drop}
use Rattle.std.proofs.lemmas.List.{get_or-drop}
use Rattle.lists.specs.Rows.{num}
use Rattle.lists.specs.Tests.{every}
use Rattle.job.specs.declared.Job.{Job}
use Rattle.job.specs.Limits.{max_steps, max_bound}
use Rattle.job.specs.Table.{n, r}
use Rattle.text.specs.RunText.{line_text, run_line, run_lines}

module _ (J : Job) where
  pub line_of_rest : (bs : List ℕ) (t : ℕ)
      → line_text J.labels J.names (n J.program) (num (drop (t * (n J.program + 3)) bs)) t ≡ run_line J bs t
  line_of_rest bs t =
      ap (λ (group : ℕ → ℕ). line_text J.labels J.names (n J.program) group t)
      (fun_ext λ i. get_or-drop (t * (n J.program + 3)) bs i 0)

  pub long_bound : max_bound < r J.program → run_lines J ≡ 0
  unfolding run_lines every
  long_bound h = rw (lt-leb _ _ h)

  pub many_variables : max_steps < n J.program → run_lines J ≡ 0
  unfolding run_lines every
  many_variables h = rw (lt-leb (n J.program) max_steps h) (go (leb (r J.program) max_bound))
    where
      go : (b : Bool) → cond (b && false) (suc (r J.program)) 0 ≡ 0
      go true = refl
      go false = refl

  pub within_limits : r J.program ≤ max_bound → n J.program ≤ max_steps → run_lines J ≡ r J.program + 1
  unfolding run_lines every
  within_limits h k = rw (le-leb _ _ h, le-leb _ _ k, add-one)
