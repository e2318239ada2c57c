-- Where the cursor stands after a field that was read: no further than the line's end, unless it stood there.
use mathlib.Core.Path.{◌≡◌}
use mathlib.Core.Bool.{true}
use mathlib.Core.List.{List}
use Prim.Native.Nat.{ℕ, suc, ◌+◌, ◌≤◌, ◌<◌}
use native.Mathlib.Omega.{arith}
use lib.ListN.{length, drop, length-drop}
use Rattle.lists.specs.Rows.{num}
use Rattle.lists.specs.Tests.{within}
use Rattle.lists.proofs.TestLaws.{is_within}
use Rattle.lists.specs.Pieces.{starts}
use Rattle.lists.proofs.PieceLaws.{starts_length}
use Rattle.scan.proofs.WordLaws.{byte_in}

-- a fixed word of more than no bytes lies in the line
pub fixed_within : (w s : List ℕ) (column : ℕ) → starts w (drop column s) ≡ true → 0 < length w → column + length w ≤ length s
fixed_within w s column h k = omega (arith, starts_length w (drop column s) h, length-drop column s)

-- a byte in a range of bytes that are not 0 lies in the line
pub within_in : (lo hi : ℕ) (s : List ℕ) (column : ℕ) → within (suc lo) hi (num s column) ≡ true → column < length s
within_in lo hi s column h = byte_in s column (omega (arith, is_within (suc lo) hi (num s column) h))
