-- The digits of at most eight bytes tell the token, and the space is looked for behind them.
use Rattle.std.proofs.Common.{◌≡◌, sym, ◌∙◌, arith}
use borrow.Author.Tests.{eqb-true, eqb-false, ltb-true}
use Rattle.lists.specs.Rows.{num}
use Rattle.tokens.proofs.NumberLaws.{a_number, no_number, word_ends}
use Rattle.tokens.proofs.unsigned.Goals as goal
use Rattle.tokens.proofs.unsigned.Goals.{then-count-eq0-via-then-count-eq0, then-count-eq0-via-else-count-eq0+then-count-gt7}
use Rattle.tokens.proofs.unsigned.Goals.{then-count-eq0-via-else-count-eq0+else-count-gt7+then-rest-eq48, then-count-gt1, else-count-gt1}

pub returns-then-count-eq0-clause-token : goal.returns-then-count-eq0-clause-token
returns-then-count-eq0-clause-token c =
    let d = c.digits-front.ensures in
    let t = c.args.rest.now in
    no_number c.args.plain t _ _ _ _ c.min.ensures d.count d.value c.length_of_tail.ensures.value (elim c.then-count-eq0.branch [
      | then-count-eq0-via-then-count-eq0 w ↦ λ some few. absurd (omega arith)
      | then-count-eq0-via-else-count-eq0+then-count-gt7 w ↦ λ some few. absurd (omega arith)
      | then-count-eq0-via-else-count-eq0+else-count-gt7+then-rest-eq48 w ↦
          λ some few. elim w.if-count-gt1.branch [
            | then-count-gt1 v ↦ (eqb-true (num t 0) 48 (sym v.value-is ∙ w.if-rest-eq48.true), λ e. omega arith)
            | else-count-gt1 v ↦ absurd (omega (arith, ltb-true 1 c.digits-front.result.count (sym v.value-is ∙ w.if-rest-eq48.true)))
          ]
    ])

pub returns-then-count-eq0-clause-length : goal.returns-then-count-eq0-clause-length
returns-then-count-eq0-clause-length c =
    let d = c.digits-front.ensures in
    word_ends c.args.plain c.args.rest.now _ _ _ _ c.min.ensures d.count d.value c.length_of_tail.ensures.value

pub returns-clause-token : goal.returns-clause-token
returns-clause-token c =
    let d = c.digits-front.ensures in
    let t = c.args.rest.now in
    let zero : num t 0 ≡ 48 → c.digits-front.result.count ≡ 1 =
    elim c.if-count-gt1.branch [
      | then-count-gt1 w ↦ λ z. absurd (eqb-false (num t 0) 48 (sym w.value-is ∙ c.if-rest-eq48.false) z)
      | else-count-gt1 w ↦ λ z. omega arith
    ] in
    c.numbered.ensures
    ∙ a_number c.args.plain t _ _ _ _ c.min.ensures d.count d.value c.length_of_tail.ensures.value (omega arith) (omega arith) zero

pub returns-clause-length : goal.returns-clause-length
returns-clause-length c =
    let d = c.digits-front.ensures in
    word_ends c.args.plain c.args.rest.now _ _ _ _ c.min.ensures d.count d.value c.length_of_tail.ensures.value
