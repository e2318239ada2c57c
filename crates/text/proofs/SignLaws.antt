-- Laws of a number of 32 bits with its sign.
use mathlib.Core.Path.{◌≡◌}
use mathlib.Core.Bool.{Bool}
use Prim.Native.Nat.{◌<◌, ◌≤◌}
use native.Mathlib.Omega.{arith}
use lib.IntN.{ℤ, pos, negsuc, nat_abs}
use lib.Signed.{lt_z, mag}
use mir.Syntax.{w32}
use mir.Val.{SFits, to_z, of_z}
use mir.ValLaws.{to_z-of_z}

-- z as the machine reads it back at 32 bits
pub back : (z : ℤ) → SFits w32 z → to_z w32 (of_z w32 z) ≡ z
back z h = to_z-of_z w32 z h

-- a test of what the machine reads back is one of z
pub tested : (z : ℤ) (b : Bool) → SFits w32 z → lt_z (to_z w32 (of_z w32 z)) (pos 0) ≡ b → lt_z z (pos 0) ≡ b
tested z b h e = rw (back z h) at e

size_bound : (z : ℤ) → mag z < 2147483648 → nat_abs z ≤ 2147483648
size_bound (pos x) h = omega arith
size_bound (negsuc x) h = h

pub size_small : (z : ℤ) → SFits w32 z → nat_abs z ≤ 2147483648
size_small z h = size_bound z h.sfits
