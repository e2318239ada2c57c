-- What a reader has left to read.
use Rattle.std.specs.Prelude.{List, ℕ, drop}
use Rattle.reader.specs.declared.Reader.{Reader}

abbrev pub ahead : Reader → List ℕ
ahead r = drop r.at r.text.now
