-- Past the table the name is empty.
use Rattle.std.proofs.Common.{arith}
use Rattle.put.proofs.PutLaws.{put_none, put_most}
use Rattle.put.proofs.NameLaws.{name_past}
use Rattle.text.proofs.run.put_name.Goals as goal

pub returns-else-k-names : goal.returns-else-k-names
returns-else-k-names c =
    let a = c.args in
    rw (name_past a.names.now a.k (omega arith)) (put_most (put_none a.page.now) (omega arith))
