-- Signed items: the place of an item, counted from 1, is its number without the sign.
use Rattle.std.proofs.Common.{◌≡◌, refl, ℕ, ℤ, pos, negsuc, nat_abs, arith}
use Rattle.lists.specs.Tests.{every, within}
use Rattle.job.specs.Fitness.{item_fits}

pub within_abs : (w : ℕ) (z : ℤ) → within 1 w (nat_abs z) ≡ item_fits w z
unfolding within every item_fits
within_abs w (pos x) = refl
within_abs w (negsuc x) = grind arith
