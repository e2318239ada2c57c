-- The texts before number count stand in the buffer; the next one goes behind them, or does not fit.
use Rattle.std.proofs.Common.{ℕ, ◌*◌, ◌≤◌, List}
use Rattle.text.specs.Texts.{PutsEach}
use Rattle.text.proofs.TextsLaws.{Begun}
use Rattle.text.proofs.put_texts.Given as goal

abbrev pub invariant-loop-count : goal.invariant-loop-count
invariant-loop-count g l = (most : ℕ) (text : ℕ → List ℕ) → PutsEach l.n most text (goal.F-post g l.put)
    → Begun text l.initial.page l.page l.count × (l.page.end ≤ l.count * most)
