-- The comments that are left, put behind those before, are all of them.
use Rattle.std.proofs.Common.{◌≡◌, ◌+◌, length}
use Rattle.lists.specs.Writing.{write}
use Rattle.scan.specs.Iterating.{lines_left}
use Rattle.text.specs.Comments.{remarks}
use Rattle.text.proofs.comments.put_remarks.Given as goal

abbrev pub invariant-loop-line : goal.invariant-loop-line
invariant-loop-line l =
    let all = remarks (lines_left l.fn.lines) in
    let left = remarks (lines_left l.line-iterator) in
    record {
      same_reference : l.page.out.ghost_name ≡ l.initial.page.out.ghost_name;
      end : l.page.end + length left ≡ l.initial.page.end + length all;
      out : write l.page.out.now l.page.end left ≡ write l.initial.page.out.now l.initial.page.end all;
      room : length l.page.out.now ≡ length l.initial.page.out.now;
    }
