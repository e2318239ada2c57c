-- A field that is lent the cursor (document 01, 'Every field reader is lent the line and column count and moves it on').
use Rattle.std.specs.Prelude.{◌≡◌, Result, Ok, Err}
use Rattle.fields.specs.declared.Cursor.{Cursor}
use Rattle.job.specs.declared.refusal.Fault.{Fault}

-- the field is read and the cursor moved on, or it is refused and the cursor stays
abbrev pub IsLent : Result Cursor Fault → Cursor → Result (Unit {0}) Fault → Cursor → Type 0
IsLent (Ok moved) at answer new = (answer ≡ Ok tt) × (new ≡ moved)
IsLent (Err fault) at answer new = (answer ≡ Err fault) × (new ≡ at)
