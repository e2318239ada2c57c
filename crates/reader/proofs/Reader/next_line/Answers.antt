-- Behind the line is what is left.
use Rattle.std.proofs.Common.{ℕ, ◌+◌, length, ap}
use Rattle.reader.proofs.PartLaws.{parted}
use Rattle.reader.proofs.Reader.next_line.Goals as goal

pub returns-clause-lines : goal.returns-clause-lines
returns-clause-lines c =
    let r = c.args.self.now in
    let line = c.line_at-line in
    let end = ap (λ (n : ℕ). r.at + (length line.result.text.now + n)) c.from.ensures in
    parted 10 r.text.now r.at _ line.result.ended line.result.text.now r.within line.ensures.text line.ensures.ended end
