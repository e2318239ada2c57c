-- The header has at most a line's room and is put whole.
use Rattle.std.proofs.Common.{arith, rules}
use Rattle.text.specs.Lines.{header}
use Rattle.text.proofs.LengthLaws.{header_length}
use Rattle.outputs.proofs.PrintingLaws.{given_some, given_whole}
use Rattle.outputs.proofs.dimacs.put_header.Goals as goal

pub unwrap-requires : goal.unwrap-requires
unwrap-requires c =
    let a = c.args in
    let short = header_length a.counts.variables a.counts.clauses (search rules) (search rules) in
    given_some (header a.counts.variables a.counts.clauses) a.out.now _ (omega (arith, short)) _ c.header_text.ensures

pub returns : goal.returns
returns c =
    let a = c.args in
    let short = header_length a.counts.variables a.counts.clauses (search rules) (search rules) in
    given_whole (header a.counts.variables a.counts.clauses) a.out.now _ (omega (arith, short)) _ c.header_text.ensures _ c.unwrap.ensures
