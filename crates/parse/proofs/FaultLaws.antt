-- Each row of 01's table has a number of its own, so a number says which row it is.
use mathlib.Core.Path.{◌≡◌, sym, ap, ◌∙◌}
use mathlib.Core.Bool.{cond}
use mathlib.Core.List.{List, [], ◌∷◌}
use Prim.Native.Nat.{ℕ, ◌<◌}
use Rattle.std.proofs.Common.{rules}
use lib.Dec.{eqb}
use Rattle.job.specs.Faults.{number_of}
use Rattle.job.specs.declared.refusal.Fault.{Fault}
use Rattle.job.specs.declared.refusal.Fault.TheVariants.{TextSize, LineLong, LineByte, LineOpen, FirstLine, NoLemmas, ManySteps, NameLong}
use Rattle.job.specs.declared.refusal.Fault.TheVariants.{NameIll, NameUsed, NoSpace, TextAfter, NoGoto, ToIll, NoEquals, IfEnd}
use Rattle.job.specs.declared.refusal.Fault.TheVariants.{VariableLong, VariableIll, Value, NoElse, OtherIll, LabelUnknown, LabelOther}
use Rattle.job.specs.declared.refusal.Fault.TheVariants.{ManyLemmas, LemmaEmpty, NameUnknown, ManyNames, TableUnfit, ClauseNumber}
use Rattle.job.specs.declared.refusal.Fault.TheVariants.{BufferShort, TooLarge, BothCritical, ReplyLong, ReplyForm, NumberPast}
use Rattle.job.specs.declared.refusal.Fault.TheVariants.{NumberTwice, NumberMissing, ClauseFalse, Unsatisfiable, NoReading, NoRun}
use Rattle.job.specs.declared.refusal.Fault.TheVariants.{NoStepOfB, NoStepOfA}

-- the first of these rows that has the number
abbrev with_number : ℕ → List Fault → Fault
with_number n [] = TextSize
with_number n (f ∷ fs) = cond (eqb n (number_of f)) f (with_number n fs)

abbrev rows : List Fault
rows =
    TextSize ∷ LineLong ∷ LineByte ∷ LineOpen ∷ FirstLine ∷ NoLemmas ∷ ManySteps ∷ NameLong ∷
    NameIll ∷ NameUsed ∷ NoSpace ∷ TextAfter ∷ NoGoto ∷ ToIll ∷ NoEquals ∷ IfEnd ∷
    VariableLong ∷ VariableIll ∷ Value ∷ NoElse ∷ OtherIll ∷ LabelUnknown ∷ LabelOther ∷ ManyLemmas ∷
    LemmaEmpty ∷ NameUnknown ∷ ManyNames ∷ TableUnfit ∷ ClauseNumber ∷ BufferShort ∷ TooLarge ∷ BothCritical ∷
    ReplyLong ∷ ReplyForm ∷ NumberPast ∷ NumberTwice ∷ NumberMissing ∷ ClauseFalse ∷ Unsatisfiable ∷ NoReading ∷
    NoRun ∷ NoStepOfB ∷ NoStepOfA ∷ []

row_of : (f : Fault) → with_number (number_of f) rows ≡ f
row_of f = search rules

pub same_fault : (f g : Fault) → number_of f ≡ number_of g → f ≡ g
same_fault f g e = sym (row_of f) ∙ ap (λ (n : ℕ). with_number n rows) e ∙ row_of g

-- and no number has more than two digits
pub number_small : (f : Fault) → number_of f < 100
number_small f = search rules
