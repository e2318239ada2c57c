-- The name is the part of the table up to its first 0; past the table it is empty.
use Rattle.std.proofs.Common.{◌+◌, ◌*◌, arith}
use Rattle.put.specs.Names.{name_at}
use Rattle.put.proofs.PutLaws.{adds_empty}
use Rattle.put.proofs.NameLaws.{name_past, name_part}
use Rattle.put.proofs.Page.name.Goals as goal

pub returns-then-k-names : goal.returns-then-k-names
returns-then-k-names c =
    let a = c.args in
    let (n, l) = c.name_length-length.ensures in
    rw (name_part a.names.now a.k (a.k * 4 + c.name_length-length.result) (omega arith) l) at c.part.ensures

pub returns-else-k-names : goal.returns-else-k-names
returns-else-k-names c =
    let a = c.args in
    adds_empty a.self.now (name_at a.names.now a.k) (name_past a.names.now a.k (omega arith))
