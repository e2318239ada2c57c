-- The loop keeps what is left: the digits from i on are the rest of those at the front, and behind the value they write the number.
use Rattle.std.proofs.Common.{◌≡◌, ◌+◌, ◌<◌, ◌^◌, length, drop}
use Rattle.tokens.specs.Numbers.{front, decimal}
use Rattle.tokens.proofs.digits.Given as goal

abbrev pub invariant-loop-i : goal.invariant-loop-i
invariant-loop-i l = record {
  left : length (front l.part) ≡ l.i + length (front (drop l.i l.part));
  writes : decimal 0 (front l.part) ≡ decimal l.value (front (drop l.i l.part));
  small : l.value < 10 ^ l.i;
}
