-- The line and its LF, one behind the other, or nothing.
use Rattle.std.proofs.Common.{◌∙◌, sym, arith}
use Rattle.put.proofs.PutLaws.{put_fits, put_none, put_then, put_own, put_length}
use Rattle.program.specs.ProgramLine.{is_comment}
use Rattle.filing.proofs.KeptLineLaws.{kept_comment, kept_line, kept_long}
use Rattle.filing.proofs.kept_lines.put_kept_line.Goals as goal

pub returns-then-follows : goal.returns-then-follows
unfolding is_comment
returns-then-follows c =
    let a = c.args in
    rw (kept_comment a.line.now (sym c.follows.ensures ∙ c.if-follows.true)) (put_none a.page.now)

pub returns : goal.returns
unfolding is_comment
returns c =
    let l = c.args.line.now in
    let t = sym c.follows.ensures ∙ c.if-follows.false in
    let n = kept_long l t in
    let room = c.requires in
    let line = put_fits c.part.ensures (omega (arith, room)) in
    let same = put_length line (omega (arith, room)) in
    let both = put_then line (put_fits c.byte.ensures (omega (arith, room, line.end, same))) (omega (arith, room)) in
    rw (kept_line l t) (put_own both)
