-- The tests come in the definition's order, and each is the definition's.
use Rattle.std.proofs.Common.{[], ◌∷◌}
use Rattle.tokens.specs.Kinds.{satisfiable, unsatisfiable, kind_of}
use Rattle.tokens.proofs.KindLaws.{begins, equals}
use Rattle.tokens.proofs.kind_of.Goals as goal

pub returns-then-starts_with : goal.returns-then-starts_with
unfolding kind_of
returns-then-starts_with c = rw (begins (99 ∷ []) c.args.line.now _ _ c.if-starts_with.true c.starts_with.ensures.value)

pub returns-then-eq : goal.returns-then-eq
unfolding kind_of
returns-then-eq c =
    rw (
      begins (99 ∷ []) c.args.line.now _ _ c.if-starts_with.false c.starts_with.ensures.value,
      equals satisfiable c.args.line.now _ _ c.if-eq.true c.eq.ensures,
    )

pub returns-then-eq-2 : goal.returns-then-eq-2
unfolding kind_of
returns-then-eq-2 c =
    rw (
      begins (99 ∷ []) c.args.line.now _ _ c.if-starts_with.false c.starts_with.ensures.value,
      equals satisfiable c.args.line.now _ _ c.if-eq.false c.eq.ensures,
      equals unsatisfiable c.args.line.now _ _ c.if-eq-2.true c.eq-else-eq.ensures,
    )

pub returns-then-starts_with-2 : goal.returns-then-starts_with-2
unfolding kind_of
returns-then-starts_with-2 c =
    rw (
      begins (99 ∷ []) c.args.line.now _ _ c.if-starts_with.false c.starts_with.ensures.value,
      equals satisfiable c.args.line.now _ _ c.if-eq.false c.eq.ensures,
      equals unsatisfiable c.args.line.now _ _ c.if-eq-2.false c.eq-else-eq.ensures,
      begins (118 ∷ 32 ∷ []) c.args.line.now _ _ c.if-starts_with-2.true c.starts_with-else-eq-2.ensures.value,
    )

pub returns-else-starts_with-2 : goal.returns-else-starts_with-2
unfolding kind_of
returns-else-starts_with-2 c =
    rw (
      begins (99 ∷ []) c.args.line.now _ _ c.if-starts_with.false c.starts_with.ensures.value,
      equals satisfiable c.args.line.now _ _ c.if-eq.false c.eq.ensures,
      equals unsatisfiable c.args.line.now _ _ c.if-eq-2.false c.eq-else-eq.ensures,
      begins (118 ∷ 32 ∷ []) c.args.line.now _ _ c.if-starts_with-2.false c.starts_with-else-eq-2.ensures.value,
    )
