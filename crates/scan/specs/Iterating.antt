-- The iterator over the lines of a text: what it gives, and what it has left.
use Rattle.std.specs.Prelude.{List}
use Rattle.scan.specs.Lines.{Row, row, lines}
use Rattle.scan.specs.declared.Line.{Line}
use Rattle.scan.specs.declared.Lines.{Lines}

-- a line that it gives
abbrev pub row_of : Line → Row
row_of line = row line.bytes.now line.ended

-- the lines that are still to come
abbrev pub lines_left : Lines → List Row
lines_left it = lines it.rest.now
