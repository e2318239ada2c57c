-- One digit has the place at the page's end; more have the places from there on, at most 20.
use Rattle.std.proofs.Common.{refl, arith, ap, sym, ◌≡◌, ◌+◌, length}
use Rattle.lists.specs.Numerals.{numeral}
use Rattle.lists.proofs.NumeralLaws.{numeral_small, length_small}
use Rattle.lists.proofs.WritingLaws.{write_one}
use Rattle.text.proofs.DigitLaws.{decimal_numeral, digits_put}
use Rattle.text.proofs.numeral.put_number.Goals as goal

pub bounds-page-page : goal.bounds-page-page
bounds-page-page c = omega (arith, c.requires, length_small c.args.x c.if-x-lt10.true)

pub returns-then-x-lt10 : goal.returns-then-x-lt10
returns-then-x-lt10 c =
    let page = c.args.page.now in
    let x = c.args.x in
    let one = length_small x c.if-x-lt10.true in
    record {
      same_reference = refl;
      short = omega (arith, one);
      end = omega (arith, one);
      out = rw (numeral_small x c.if-x-lt10.true) (write_one page.out.now page.end (48 + x) (omega (arith, c.requires, one)));
    }

pub returns : goal.returns
returns c =
    let page = c.args.page.now in
    let x = c.args.x in
    let e = decimal_numeral x c.ranges.x.fits in
    let w = c.write_digits.ensures in
    let start : c.write_digits.result ≡ page.end = omega (arith, w.start, ap length e, c.digits.ensures) in
    record {
      same_reference = refl;
      short = omega (arith, c.digits.ensures);
      end = omega (arith, c.digits.ensures);
      out = digits_put page.out.now _ (numeral x) page.end _
          (sym (omega (arith, c.digits.ensures))) (rw (start, e) at w.written) (rw start at w.before);
    }
