-- The number is put where it has room, and else nothing is.
use Rattle.std.proofs.Common.{◌≡◌, ℕ, ◌+◌, length, arith, ap, sym, ◌∙◌, rules}
use borrow.Author.Tests.{leb-true, leb-false}
use lib.Dec.{leb}
use Rattle.put.proofs.PutLaws.{adds_whole, adds_not}
use Rattle.text.specs.Dimacs.{told}
use Rattle.text.proofs.LengthLaws.{told_length}
use Rattle.text.proofs.SignLaws.{back}
use Rattle.text.proofs.told.try_put_told.Goals as goal
use Rattle.text.proofs.told.try_put_told.Goals.{After-has_room-fits}

-- the room that was asked for is the number's
fits : (c : After-has_room-fits) → c.has_room-fits.result
    ≡ leb (c.args.page.now.end + length (told c.args.x)) (length c.args.page.now.out.now)
fits c =
    let page = c.args.page.now in
    let n = rw (back c.args.x (search rules)) at c.told_length-n.ensures in
    c.has_room-fits.ensures ∙ ap (λ (k : ℕ). leb (page.end + k) (length page.out.now)) (omega (arith, n))

pub returns-then-fits : goal.returns-then-fits
returns-then-fits c =
    let p = rw (back c.args.x (search rules)) at c.put_told.ensures in
    let e = fits (goal.at.returns-then-fits c).After-has_room-fits in
    record {
      short = told_length c.args.x (search rules);
      fits = e;
      adds = adds_whole c.args.page.now (told c.args.x) c.put_told.new.page (leb-true _ _ (sym e ∙ c.if-fits.true)) p.same_reference p.end
          p.out;
    }

pub returns-else-fits : goal.returns-else-fits
returns-else-fits c =
    let e = fits (goal.at.returns-else-fits c).After-has_room-fits in
    record {
      short = told_length c.args.x (search rules);
      fits = e;
      adds = adds_not c.args.page.now (told c.args.x) (leb-false _ _ (sym e ∙ c.if-fits.false));
    }
