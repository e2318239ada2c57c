-- Bytes of the texts.
use Rattle.std.specs.Prelude.{ℕ}

abbrev pub lf : ℕ
lf = 10

abbrev pub space : ℕ
space = 32

abbrev pub equals : ℕ
equals = 61

abbrev pub minus : ℕ
minus = 45
