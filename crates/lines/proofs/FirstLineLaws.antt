-- R has at most two digits, each at most 9.
use mathlib.Core.Path.{◌≡◌, refl}
use mathlib.Core.Bool.{Bool, true, false, cond}
use Prim.Native.Nat.{ℕ, ◌-◌, ◌≤◌}
use native.Mathlib.Omega.{arith}
use Rattle.lists.specs.Tests.{within}
use Rattle.lists.proofs.TestLaws.{is_within}
use Rattle.fields.specs.Fields.{digit}
use Rattle.lines.specs.FirstLine.{value_of}

pub value_most : (b : ℕ) → value_of b ≤ 9
unfolding value_of
value_most b = go (digit b) refl
  where
    go : (t : Bool) → within 48 57 b ≡ t → cond t (b - 48) 0 ≤ 9
    go true h = omega (arith, is_within 48 57 b h)
    go false h = omega arith
