-- A space at the front ends the word there.
use Rattle.std.proofs.Common.{[], ◌∷◌, sym}
use Rattle.tokens.proofs.KindLaws.{begins, nothing_before}
use Rattle.tokens.proofs.length_of_tail.Goals as goal

pub returns-then-starts_with-clause-value : goal.returns-then-starts_with-clause-value
returns-then-starts_with-clause-value c =
    let p = c.args.rest.now in
    sym (nothing_before 32 p (begins (32 ∷ []) p _ _ c.if-starts_with.true c.starts_with.ensures.value))
