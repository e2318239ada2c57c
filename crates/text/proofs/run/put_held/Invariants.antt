-- The name's first i bytes stand at the page's place, and none of them ends it.
use Rattle.std.proofs.Common.{◌≡◌}
use Rattle.lists.specs.Rows.{tab}
use Rattle.lists.specs.Places.{first}
use Rattle.lists.specs.Writing.{write}
use Rattle.put.proofs.NameLaws.{letter, ends}
use Rattle.text.proofs.run.put_held.Given as goal

abbrev pub invariant-loop-i : goal.invariant-loop-i
invariant-loop-i l = (l.page.out.ghost_name ≡ l.initial.page.out.ghost_name)
    × (first l.i (ends l.names l.k) ≡ l.i)
    × (l.page.out.now ≡ write l.initial.page.out.now l.end (tab l.i (letter l.names l.k)))
