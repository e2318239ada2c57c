-- One element is set, where there is one.
use Rattle.std.proofs.Common.{refl, arith}
use Rattle.lists.proofs.WritingLaws.{write_one}
use Rattle.put.proofs.PutLaws.{adds_whole, adds_not}
use Rattle.put.proofs.Page.byte.Goals as goal

pub returns-then-self : goal.returns-then-self
returns-then-self c =
    let page = c.args.self.now in
    adds_whole page _ _ (omega arith) refl refl (write_one page.out.now page.end c.args.b (omega arith))

pub returns-else-self : goal.returns-else-self
returns-else-self c = adds_not c.args.self.now _ (omega arith)
