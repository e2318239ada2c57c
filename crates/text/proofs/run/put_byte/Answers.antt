-- One element is set.
use Rattle.std.proofs.Common.{refl, arith}
use Rattle.lists.proofs.WritingLaws.{write_one}
use Rattle.text.proofs.run.put_byte.Goals as goal

pub returns : goal.returns
returns c =
    let page = c.args.page.now in
    record {
      same_reference = refl;
      short = omega arith;
      end = refl;
      out = write_one page.out.now page.end c.args.b (omega (arith, c.requires));
    }
