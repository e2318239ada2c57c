-- The name goes on while its bytes are not 0, up to four; such a byte stands in the table.
use Rattle.std.proofs.Common.{◌≡◌, ◌+◌, ◌*◌, ◌≤◌, length}
use Rattle.lists.specs.Places.{first}
use Rattle.put.proofs.NameLaws.{ends}
use Rattle.put.proofs.name_length.Given as goal

abbrev pub invariant-loop-i : goal.invariant-loop-i
invariant-loop-i l = (first l.i (ends l.names l.k) ≡ l.i) × (l.k * 4 + l.i ≤ length l.names)
