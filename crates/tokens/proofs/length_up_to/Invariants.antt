-- The loop keeps what is left: the bytes passed, and those in front of the first such byte behind them.
use Rattle.std.proofs.Common.{◌≡◌, ◌+◌, length, drop}
use Rattle.lists.specs.Pieces.{up_to}
use Rattle.tokens.proofs.length_up_to.Given as goal

abbrev pub invariant-loop-i : goal.invariant-loop-i
invariant-loop-i l = length (up_to l.byte l.text) ≡ l.i + length (up_to l.byte (drop l.i l.text))
