-- Results: a refusal is no value, and a value tells the tests and the answers before it.
use mathlib.Core.Path.{◌≡◌, refl}
use mathlib.Core.Bool.{Bool, true, false, cond}
use Rattle.std.specs.Prelude.{Option, Some, None, Result, Ok, Err}
use Rattle.job.specs.declared.refusal.Fault.{Fault}
use Rattle.job.specs.declared.refusal.Refusal.{Refusal}
use Rattle.fields.specs.declared.Cursor.{Cursor}
use Rattle.lines.specs.FirstLine.{after}
use Rattle.parse.specs.Answers.{then}

pub not_ok : {A T E : Type 0} {e : E} {x : T} → Err e ≡ Ok x → A
not_ok h = absurd cc

pub ok_same : {T E : Type 0} {x y : T} → ◌≡◌ {A = Result T E} (Ok x) (Ok y) → x ≡ y
ok_same h = cc

pub taken : {T E : Type 0} (b : Bool) (e : E) {r : Result T E} {x : T} → cond b r (Err e) ≡ Ok x → (b ≡ true) × (r ≡ Ok x)
taken true e h = (refl, h)
taken false e h = not_ok h

pub passed : {T E : Type 0} (b : Bool) (e : E) {r : Result T E} {x : T} → cond b (Err e) r ≡ Ok x → (b ≡ false) × (r ≡ Ok x)
passed true e h = not_ok h
passed false e h = (refl, h)

pub found : {T : Type 0} (b : Bool) {o : Option T} {x : T} → cond b o None ≡ Some x → (b ≡ true) × (o ≡ Some x)
found true h = (refl, h)
found false h = absurd cc

pub after_told : {T : Type 0} (m : Result Cursor Fault) (rest : Cursor → Result T Fault) (x : T) → after m rest ≡ Ok x
    → (to : Cursor) × (m ≡ Ok to) × (rest to ≡ Ok x)
unfolding after
after_told (Ok to) rest x h = (to, refl, h)
after_told (Err fault) rest x h = not_ok h

pub then_told : {T U : Type 0} (m : Result T Refusal) (rest : T → Result U Refusal) (x : U) → then m rest ≡ Ok x
    → (y : T) × (m ≡ Ok y) × (rest y ≡ Ok x)
unfolding then
then_told (Ok y) rest x h = (y, refl, h)
then_told (Err r) rest x h = not_ok h
