-- The examples of 45 hold, by evaluation of its definition.
use mathlib.Core.Path.{refl}
use Rattle.lists.specs.Rows.{each}
use Rattle.lists.specs.Tests.{every, all, within}
use Rattle.lists.specs.Places.{passing, first}
use Rattle.job.specs.Table.{first_of}
use Rattle.job.specs.Fitness as fitness
use Rattle.job.specs.OneBit.{one_bit}
use Rattle.job.specs.FitCases.{worded_table, table_of, fit_tables, unfit_tables, Claim}

pub claim : Claim
unfolding each every all within passing first one_bit worded_table table_of fit_tables unfit_tables first_of fitness.larger fitness.is_step
    fitness.other_fits fitness.variable_fits fitness.value_fits fitness.used_step fitness.unused_step fitness.mentioned fitness.step_fits
    fitness.steps_fit fitness.both_start fitness.both_critical fitness.program_fits fitness.item_fits fitness.place_fits fitness.length_fits
    fitness.places_fit fitness.lemma_fits fitness.lemmas_fit fitness.fit
claim = (refl, refl)
