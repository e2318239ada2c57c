-- The lines that are left, written behind those before, give them all.
use Rattle.std.proofs.Common.{◌∙◌, sym, ap}
use Rattle.scan.specs.Iterating.{row_of, lines_left}
use Rattle.filing.specs.Lines.{kept_text}
use Rattle.filing.proofs.KeptLineLaws.{left, left_none, left_lemmas, left_next}
use Rattle.filing.proofs.PartLaws.{going_room, going_next, going_ends}
use Rattle.filing.proofs.kept_lines.put_kept.Goals as goal

pub returns-then-is_lemmas : goal.returns-then-is_lemmas
returns-then-is_lemmas c =
    going_ends c.loop-line.invariant (ap left c.in-Some.ensures.steps
    ∙ left_lemmas (row_of c.in-Some.line) (lines_left c.next.new.self) (sym c.is_lemmas.ensures ∙ c.if-is_lemmas.true))

pub put_kept_line-requires : goal.put_kept_line-requires
put_kept_line-requires c =
    let next = ap left c.in-Some.ensures.steps
    ∙ left_next (row_of c.in-Some.line) (lines_left c.next.new.self) (sym c.is_lemmas.ensures ∙ c.if-is_lemmas.false) in
    going_room (kept_text c.in-Some.line.bytes.now) (left (lines_left c.next.new.self)) c.loop-line.invariant next c.requires

pub loop-line-preserved : goal.loop-line-preserved
loop-line-preserved c =
    let next = ap left c.in-Some.ensures.steps
    ∙ left_next (row_of c.in-Some.line) (lines_left c.next.new.self) (sym c.is_lemmas.ensures ∙ c.if-is_lemmas.false) in
    going_next (kept_text c.in-Some.line.bytes.now) (left (lines_left c.next.new.self)) c.loop-line.invariant next c.requires
    c.put_kept_line.ensures

pub returns : goal.returns
returns c = going_ends c.loop-line.invariant (ap left c.in-None.ensures.steps.0 ∙ left_none)
