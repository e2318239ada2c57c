-- The rows of document 01's table, 'What is turned away': the number of each, and a refusal with its place.
use Rattle.std.specs.Prelude.{ℕ, List, ◌++◌, codes, decimal}
use Rattle.job.specs.declared.refusal.Fault.{Fault}
use Rattle.job.specs.declared.refusal.Fault.TheVariants.{TextSize, LineLong, LineByte, LineOpen, FirstLine, NoLemmas, ManySteps}
use Rattle.job.specs.declared.refusal.Fault.TheVariants.{NameLong, NameIll, NameUsed, NoSpace, TextAfter, NoGoto, ToIll, NoEquals}
use Rattle.job.specs.declared.refusal.Fault.TheVariants.{IfEnd, VariableLong, VariableIll, Value, NoElse, OtherIll, LabelUnknown}
use Rattle.job.specs.declared.refusal.Fault.TheVariants.{LabelOther, ManyLemmas, LemmaEmpty, NameUnknown, ManyNames, TableUnfit}
use Rattle.job.specs.declared.refusal.Fault.TheVariants.{ClauseNumber, BufferShort, TooLarge, BothCritical, ReplyLong, ReplyForm}
use Rattle.job.specs.declared.refusal.Fault.TheVariants.{NumberPast, NumberTwice, NumberMissing, ClauseFalse, Unsatisfiable}
use Rattle.job.specs.declared.refusal.Fault.TheVariants.{NoReading, NoRun, NoStepOfB, NoStepOfA}
use Rattle.job.specs.declared.refusal.Refusal.{Refusal}

abbrev pub number_of : Fault → ℕ
number_of TextSize = 1
number_of LineLong = 2
number_of LineByte = 3
number_of LineOpen = 4
number_of FirstLine = 5
number_of NoLemmas = 6
number_of ManySteps = 7
number_of NameLong = 10
number_of NameIll = 11
number_of NameUsed = 12
number_of NoSpace = 13
number_of TextAfter = 14
number_of NoGoto = 16
number_of ToIll = 17
number_of NoEquals = 18
number_of IfEnd = 19
number_of VariableLong = 20
number_of VariableIll = 21
number_of Value = 22
number_of NoElse = 23
number_of OtherIll = 24
number_of LabelUnknown = 30
number_of LabelOther = 32
number_of ManyLemmas = 41
number_of LemmaEmpty = 42
number_of NameUnknown = 43
number_of ManyNames = 44
number_of TableUnfit = 45
number_of ClauseNumber = 50
number_of BufferShort = 51
number_of TooLarge = 52
number_of BothCritical = 55
number_of ReplyLong = 60
number_of ReplyForm = 61
number_of NumberPast = 62
number_of NumberTwice = 63
number_of NumberMissing = 64
number_of ClauseFalse = 65
number_of Unsatisfiable = 66
number_of NoReading = 67
number_of NoRun = 69
number_of NoStepOfB = 98
number_of NoStepOfA = 99

abbrev pub refusal_at : Fault → ℕ → Refusal
refusal_at fault place = record { fault = fault; place = place }

-- 'The place is 0 unless given.'
abbrev pub refusal_of : Fault → Refusal
refusal_of fault = refusal_at fault 0

-- 'refused N at P'
abbrev pub refusal_text : Refusal → List ℕ
refusal_text r = codes "refused " ++ decimal (number_of r.fault) ++ codes " at " ++ decimal r.place
