-- Comments are at most twice as long as the text, and the header is a line, so that both have room.
use Rattle.std.proofs.Common.{◌≡◌, ◌+◌, ◌∙◌, ap, arith, rules, length, length-append}
use Rattle.lists.proofs.WritingLaws.{length_write, write_more}
use Rattle.text.specs.Comments.{comments}
use Rattle.text.specs.Lines.{header}
use Rattle.text.proofs.LengthLaws.{header_length}
use Rattle.text.proofs.CommentLength.{comments_twice}
use Rattle.outputs.proofs.PrintingLaws.{part_at}
use Rattle.outputs.proofs.dimacs.put_before.Goals as goal

pub put_comments-end-requires : goal.put_comments-end-requires
put_comments-end-requires c = omega (arith, comments_twice c.args.text.now)

pub put_header-requires : goal.put_header-requires
put_header-requires c =
    let a = c.args in
    let (size, holds) = c.put_comments-end.ensures in
    let twice = comments_twice a.text.now in
    omega (arith, ap length holds ∙ length_write a.out.now 0 (comments a.text.now) (omega (arith, twice)))

pub returns : goal.returns
returns c =
    let a = c.args in
    let twice = comments_twice a.text.now in
    let short = header_length a.counts.variables a.counts.clauses (search rules) (search rules) in
    let (size, holds) = c.put_comments-end.ensures in
    let (sum, both) = c.put_header.ensures in
    let end : c.put_comments-end.result ≡ 0 + length (comments a.text.now) = omega arith in
    let behind = part_at c.put_comments-end.new.out c.put_comments-end.result _ (header a.counts.variables a.counts.clauses) both in (
      omega (arith, length-append (comments a.text.now) (header a.counts.variables a.counts.clauses)),
      behind
          ∙ rw (holds, end) (write_more a.out.now 0 (comments a.text.now) (header a.counts.variables a.counts.clauses)
          (omega (arith, twice, short))),
    )
