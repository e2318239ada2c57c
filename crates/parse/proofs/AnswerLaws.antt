-- What holds of a result that is accepted.
use mathlib.Core.Path.{◌≡◌, refl, subst}
use mathlib.Core.Bool.{Bool, true, false, cond}
use Rattle.std.specs.Prelude.{Result, Ok, Err}
use Rattle.job.specs.declared.refusal.Refusal.{Refusal}
use Rattle.parse.specs.Answers.{then}

abbrev pub Holds : {T : Type 0} → (T → Type 0) → Result T Refusal → Type 0
Holds I (Ok x) = I x
Holds I (Err r) = Unit {0}

module _ {T : Type 0} (I : T → Type 0) where
  pub cond_holds : (b : Bool) (x y : Result T Refusal) → (b ≡ true → Holds I x) → (b ≡ false → Holds I y) → Holds I (cond b x y)
  cond_holds true x y h k = h refl
  cond_holds false x y h k = k refl

  pub then_holds : {S : Type 0} (J : S → Type 0) (r : Result S Refusal) (rest : S → Result T Refusal) → Holds J r
      → ((x : S) → J x → Holds I (rest x)) → Holds I (then r rest)
  unfolding then
  then_holds J (Ok x) rest h k = k x h
  then_holds J (Err r) rest h k = tt

  pub holds_of : (r : Result T Refusal) (x : T) → Holds I r → r ≡ Ok x → I x
  holds_of r x h e = subst (λ (v : Result T Refusal). Holds I v) e h

-- what is read so far goes on
pub goes_on : {S T : Type 0} (r : Result S Refusal) (rest : S → Result T Refusal) (x : S) → r ≡ Ok x → then r rest ≡ rest x
unfolding then
goes_on r rest x e = rw e
