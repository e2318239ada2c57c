-- The line that is given is the first of those that were left.
use mathlib.Core.Path.{◌≡◌, ap, ◌∙◌, sym}
use mathlib.Core.List.{◌∷◌}
use lib.Dec.{ltb}
use lib.ListN.{length, take}
use Rattle.std.proofs.Common.{rules}
use Rattle.scan.specs.Lines.{row, lines}
use Rattle.lists.specs.Pieces.{up_to}
use Rattle.scan.proofs.LineLaws.{lines_first, lines_none}
use Rattle.scan.proofs.WordLaws.{passed_over}
use Rattle.scan.proofs.LinesIterator.next.Goals as goal
use Rattle.scan.proofs.LinesIterator.next.Goals.{After-rest-self}

pub returns-then-is_empty-clause-steps : goal.returns-then-is_empty-clause-steps
returns-then-is_empty-clause-steps c =
    let none = lines_none c.args.self.now.rest.now (search rules) in
    (none, none)

-- what was left, by the line's end
first : (c : After-rest-self) → let text = c.args.self.now.rest.now in
    let k = c.unstopped-end.result in
    lines text ≡ row (take k text) (ltb k (length text)) ∷ lines c.rest-self.result.now
first c =
    let text = c.args.self.now.rest.now in
    let end : c.unstopped-end.result ≡ length (up_to 10 text) = c.unstopped-end.ensures ∙ ap length (sym (passed_over 10 text)) in
    rw c.rest-self.ensures (lines_first text c.unstopped-end.result (search rules) end)

pub returns-clause-steps : goal.returns-clause-steps
returns-clause-steps c = first (goal.at.returns-clause-steps c).After-rest-self

pub returns-clause-goes : goal.returns-clause-goes
returns-clause-goes c =
    let shorter = ap length (first (goal.at.returns-clause-goes c).After-rest-self) in
    search rules
