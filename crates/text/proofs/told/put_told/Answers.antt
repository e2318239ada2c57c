-- The sign, the digits and the byte behind them, each at its place.
use Rattle.std.proofs.Common.{◌≡◌, true, false, length, arith, ap, sym, ◌∙◌}
use lib.IntN.{nat_abs}
use Rattle.lists.specs.Writing.{write}
use Rattle.lists.proofs.WritingLaws.{length_write}
use Rattle.lists.specs.Numerals.{numeral}
use Rattle.std.specs.Fmt.{decimal}
use Rattle.put.specs.declared.Page.{Page}
use Rattle.text.proofs.DigitLaws.{decimal_numeral}
use Rattle.text.proofs.SignLaws.{back, tested}
use Rattle.text.proofs.ToldLaws.{sign, closing, closing_more, length_parts, sign_written, sign_none, told_written}
use Rattle.text.proofs.told.put_told.Goals as goal
use Rattle.text.proofs.told.put_told.Goals.{After-from, then-x-lt0, else-x-lt0, then-size-eq0, else-size-eq0}

signed : (c : After-from) → c.if-x-lt0.page.out.now ≡ write c.args.page.now.out.now c.args.page.now.end (sign c.args.x)
signed c =
    let page = c.args.page.now in
    elim c.if-x-lt0.branch [
      | then-x-lt0 w ↦
          let e = tested c.args.x true c.ranges.x w.if-x-lt0.true in
          ap (λ (p : Page). p.out.now) w.page-is
          ∙ sign_written page.out.now page.end c.args.x (omega (arith, c.requires, length_parts c.args.x)) e
      | else-x-lt0 w ↦
          let e = tested c.args.x false c.ranges.x w.if-x-lt0.false in
          ap (λ (p : Page). p.out.now) w.page-is ∙ sign_none page.out.now page.end c.args.x e
    ]

sized : (c : After-from) → c.unsigned_abs-size.result ≡ nat_abs c.args.x
sized c = rw (back c.args.x c.ranges.x) at c.unsigned_abs-size.ensures.value

spelt : (c : After-from) → decimal c.from.result ≡ numeral (nat_abs c.args.x)
spelt c = decimal_numeral c.from.result c.from.type_inv ∙ ap numeral (c.from.ensures ∙ sized c)

long : (c : After-from) → length c.if-x-lt0.page.out.now ≡ length c.args.page.now.out.now
long c =
    let page = c.args.page.now in
    ap length (signed c) ∙ length_write page.out.now page.end (sign c.args.x) (omega (arith, c.requires, length_parts c.args.x))

pub bounds-page-page : goal.bounds-page-page
bounds-page-page c = omega (arith, c.requires, length_parts c.args.x)

pub overflow_sub-end : goal.overflow_sub-end
overflow_sub-end c = omega (arith, c.requires, length_parts c.args.x)

pub write_digits-requires : goal.write_digits-requires
write_digits-requires c =
    let at = (goal.at.write_digits-requires c).After-from in
    let n = ap length (spelt at) in (
      omega (arith, c.requires, length_parts c.args.x, n),
      omega (arith, c.requires, long at),
    )

pub overflow_sub-page : goal.overflow_sub-page
overflow_sub-page c = omega (arith, c.requires, length_parts c.args.x)

pub bounds-page-end : goal.bounds-page-end
bounds-page-end c =
    let at = (goal.at.bounds-page-end c).After-from in
    omega (arith, c.requires, length_parts c.args.x, long at)

pub returns : goal.returns
returns c =
    let z = c.args.x in
    let page = c.args.page.now in
    let at = (goal.at.returns c).After-from in
    let w = c.write_digits.ensures in
    let ds = spelt at in
    let last : c.if-size-eq0.page ≡ closing (nat_abs z) = elim c.if-size-eq0.branch [
      | then-size-eq0 w ↦ w.page-is ∙ ap closing (sym w.if-size-eq0.true ∙ sized at)
      | else-size-eq0 w ↦ w.page-is ∙ sym (closing_more (nat_abs z) (λ e. w.if-size-eq0.false (sized at ∙ e)))
    ] in
    record {
      same_reference = elim c.if-x-lt0.branch [
        | then-x-lt0 w ↦ ap (λ (p : Page). p.out.ghost_name) w.page-is
        | else-x-lt0 w ↦ ap (λ (p : Page). p.out.ghost_name) w.page-is
      ];
      short = omega arith;
      end = c.requires.place;
      out = rw last (told_written page.out.now page.end z c.args.end c.requires.place c.requires.room _ (signed at) _ _
          (rw ds at w.start) (rw ds at w.written) w.before);
    }
