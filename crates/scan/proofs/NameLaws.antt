-- Laws of names: what is found is one of the entries.
use mathlib.Core.Path.{◌≡◌, sym}
use mathlib.Core.List.{List}
use Rattle.std.specs.Prelude.{Some}
use Prim.Native.Nat.{ℕ, ◌<◌}
use native.Mathlib.Omega.{arith}
use Rattle.lists.proofs.PlaceLaws.{found_is}
use Rattle.scan.specs.Names.{lookup}

pub lookup_below : (names : List ℕ) (count : ℕ) (w : List ℕ) (i : ℕ) → lookup names count w ≡ Some i → i < count
unfolding lookup
lookup_below names count w i e = let f = found_is count _ i (sym e) in omega (arith, f)
