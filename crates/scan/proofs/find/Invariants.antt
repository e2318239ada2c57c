-- `find` gives the first entry that matches: none of those passed matches, and so far each byte of this one does.
use Rattle.scan.specs.Names.{entry_is}
use Rattle.lists.specs.Places.{first}
use Rattle.lists.specs.Tests.{all}
use Rattle.lists.specs.Rows.{num}
use lib.Dec.{eqb}
use mathlib.Core.Bool.{true}
use mathlib.Core.Path.{◌≡◌}
use Prim.Native.Nat.{◌+◌, ◌*◌}
use Rattle.scan.proofs.find.Given as goal

abbrev pub invariant-loop-j : goal.invariant-loop-j
invariant-loop-j l = all l.j (λ m. eqb (num l.names (l.i * 4 + m)) (num l.word m)) ≡ true

abbrev pub invariant-entries : goal.invariant-entries
invariant-entries l = first l.i (entry_is l.names l.word) ≡ l.i
