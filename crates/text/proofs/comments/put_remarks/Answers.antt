-- The comments that are left, put behind those before, are all of them.
use Rattle.std.proofs.Common.{sym, ap, ◌∙◌, arith}
use Rattle.scan.specs.Iterating.{row_of, lines_left}
use Rattle.text.specs.Comments.{remarks}
use Rattle.text.proofs.CommentLaws.{left_lemmas, line_within, write_next, done}
use Rattle.text.proofs.comments.put_remarks.Goals as goal

pub returns-then-is_lemmas : goal.returns-then-is_lemmas
returns-then-is_lemmas c =
    let i = c.loop-line.invariant in
    let e = ap remarks c.in-Some.ensures.steps
    ∙ left_lemmas (row_of c.in-Some.line) (lines_left c.next.new.self) (sym c.is_lemmas.ensures ∙ c.if-is_lemmas.true) in
    done (remarks (lines_left c.args.lines)) (remarks (lines_left c.loop-line.line-iterator)) e i.same_reference i.end i.out

pub put_remark-requires : goal.put_remark-requires
put_remark-requires c =
    let o = c.loop-line in
    let i = rw c.in-Some.ensures.steps at o.invariant in
    line_within (row_of c.in-Some.line) (lines_left c.next.new.self) _ o.page.end (sym c.is_lemmas.ensures ∙ c.if-is_lemmas.false)
    (omega (arith, i.end, i.room, c.requires))

pub loop-line-preserved : goal.loop-line-preserved
loop-line-preserved c =
    let o = c.loop-line in
    let i = rw c.in-Some.ensures.steps at o.invariant in
    let p = c.put_remark.ensures in
    let w = write_next (row_of c.in-Some.line) (lines_left c.next.new.self) (sym c.is_lemmas.ensures ∙ c.if-is_lemmas.false) p
    (omega (arith, i.end, i.room, c.requires)) in
    record {
      same_reference = p.same_reference ∙ i.same_reference;
      end = w.0 ∙ i.end;
      out = w.1 ∙ i.out;
      room = w.2 ∙ i.room;
    }

pub returns : goal.returns
unfolding remarks
returns c =
    let i = c.loop-line.invariant in
    let e = ap remarks c.in-None.ensures.steps.0 in
    done (remarks (lines_left c.args.lines)) (remarks (lines_left c.loop-line.line-iterator)) e i.same_reference i.end i.out
