-- An accepted text is filed where the buffer is long enough: neither a refusal of the reader nor 51 comes first.
use mathlib.Core.List.{List}
use Prim.Native.Nat.{ℕ}
use borrow.Author.Tests.{le-ltb}
use lib.ListN.{length}
use Rattle.parse.specs.Reading.{read_job}
use Rattle.form.specs.OneForm.{IsJob}
use Rattle.form.proofs.AcceptedLaws.{is_job}
use Rattle.filing.specs.Filing.{filing}
use Rattle.claims.specs.Filed.{FiledWhole}

pub filed_whole : (text : List ℕ) → IsJob text → FiledWhole text
unfolding filing read_job
filed_whole text is buffer long = rw (is_job text is, le-ltb (length buffer) (length text) long)
