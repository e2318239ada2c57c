-- A part written into a list, as a call writes into a lent buffer.
use Rattle.std.specs.Prelude.{List, ◌++◌, ℕ, ◌+◌, length, take, drop}

-- the list old with a part written at place at
abbrev pub write {ℓ} : {T : Type ℓ} → List T → ℕ → List T → List T
write old at part = take at old ++ part ++ drop (at + length part) old
