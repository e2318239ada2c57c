-- A digit is passed, any other byte ends the digits, and so does the part.
use Rattle.std.proofs.Common.{get_or, sym, ◌∙◌, arith}
use Rattle.lists.proofs.TestLaws.{is_within}
use Rattle.tokens.proofs.NumberLaws.{digit_test, front_digit, front_other, front_none, scan_ends, scan_on, one_digit_more}
use Rattle.tokens.proofs.digits.Goals as goal

pub returns-then-not-is_ascii_digit : goal.returns-then-not-is_ascii_digit
returns-then-not-is_ascii_digit c =
    let p = c.args.part.now in
    let l = c.loop-i in
    let other = digit_test _ ∙ sym c.is_ascii_digit.ensures.value ∙ c.if-not-is_ascii_digit.true in
    let (count, value) = scan_ends p l.i l.value l.invariant.left l.invariant.writes (front_other p l.i c.loop-i-test.true other) in
    record { within = omega arith; count = count; value = value }

pub loop-i-preserved : goal.loop-i-preserved
loop-i-preserved c =
    let p = c.args.part.now in
    let l = c.loop-i in
    let is_digit = digit_test (get_or p l.i 0) ∙ sym c.is_ascii_digit.ensures.value ∙ c.if-not-is_ascii_digit.false in
    let (left, writes) = scan_on p l.i l.value l.invariant.left l.invariant.writes (front_digit p l.i c.loop-i-test.true is_digit) in
    record {
      left = left;
      writes = rw c.from.ensures writes;
      small = rw (c.from.ensures, one_digit_more l.i) (omega (arith, is_within 48 57 (get_or p l.i 0) is_digit, l.invariant.small));
    }

pub returns : goal.returns
returns c =
    let p = c.args.part.now in
    let l = c.loop-i in
    let (count, value) = scan_ends p l.i l.value l.invariant.left l.invariant.writes (front_none p l.i (omega arith)) in
    record { within = omega arith; count = omega (arith, count); value = value }
