-- Every call that takes a table 'gives 45 unless' it is that of a job (document 01, 'Calls and buffers', Reading).
use Rattle.std.specs.Prelude.{◌≡◌, false, Result, Ok, Err}
use Rattle.job.specs.declared.Job.{Job}
use Rattle.job.specs.declared.refusal.Fault.TheVariants.{TableUnfit}
use Rattle.job.specs.declared.refusal.Refusal.{Refusal}
use Rattle.job.specs.Faults.{refusal_of}
use Rattle.job.specs.Fitness.{fit}
use Rattle.fit.specs.declared.FitJob.{FitJob}

-- the table itself where it is fit, else 45
abbrev pub IsFitOrRefused : Job → Result FitJob Refusal → Type 0
IsFitOrRefused job (Ok x) = x.job ≡ job
IsFitOrRefused job (Err refusal) = (fit job ≡ false) × (refusal ≡ refusal_of TableUnfit)
