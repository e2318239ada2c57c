-- So much of the row is f's, for each f that the calls give.
use Rattle.std.proofs.Common.{◌≡◌, Bool, ℕ, ◌<◌, ◌++◌, length, drop}
use Rattle.lists.specs.Rows.{tab}
use Rattle.job.specs.ReadOff.{byte}
use Rattle.readoff.proofs.rows.put_bits.Given as goal

abbrev pub invariant-loop-i : goal.invariant-loop-i
invariant-loop-i g l = (f : ℕ → Bool)
    → ((i : ℕ) → i < length l.fn.row → (b : Bool) → goal.F-post g l.bit i b → b ≡ f i)
    → l.row ≡ tab l.i (λ i. byte (f i)) ++ drop l.i l.fn.row
