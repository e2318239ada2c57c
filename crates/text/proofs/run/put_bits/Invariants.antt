-- The texts of the bits before x stand one behind the other.
use Rattle.std.proofs.Common.{◌*◌}
use Rattle.lists.specs.Rows.{num}
use Rattle.put.specs.Put.{Puts}
use Rattle.text.specs.RunText.{bits_text}
use Rattle.text.proofs.run.put_bits.Given as goal

abbrev pub invariant-loop-x : goal.invariant-loop-x
invariant-loop-x l = Puts (l.x * 26) l.initial.page l.page (bits_text l.names l.x (num l.group))
