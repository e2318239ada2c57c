-- `longest` is the length of the longest clause, no more: a job of 100 steps that each set a bit of their own has one of that length.
use mathlib.Core.Path.{◌≡◌, refl}
use mathlib.Core.Bool.{true}
use mathlib.Core.List.{[], ◌∷◌, ◌++◌}
use Prim.Native.Nat.{suc}
use lib.ListN.{length, get_or}
use Rattle.lists.specs.Rows.{each, tab}
use Rattle.lists.specs.Tests.{every, all, within}
use Rattle.lists.specs.Places.{passing, first}
use Rattle.job.specs.declared.Job.{Job}
use Rattle.job.specs.Words.{no_word}
use Rattle.job.specs.Table as table
use Rattle.job.specs.Numbering as numbering
use Rattle.job.specs.Exclusion as exclusion
use Rattle.job.specs.Clauses as family
use Rattle.job.specs.Clauses.{clauses}
use Rattle.job.specs.Fitness as fitness
use Rattle.job.specs.Fitness.{fit}
use Rattle.pieces.specs.AllClauses.{longest}

-- `bound 1`, step c sets bit c and stays; the last is B's
unfoldable widest : Job
widest = record {
  program = record {
    bound = 1;
    word = no_word;
    steps = 100;
    variables = 100;
    process = tab 99 (λ c. 1) ++ (2 ∷ []);
    kind = tab 100 (λ c. 3);
    to = tab 100 suc;
    other = [];
    variable = tab 100 suc;
    value = tab 100 (λ c. 1);
  };
  labels = [];
  names = [];
  lemmas = 0;
  lengths = [];
  items = [];
}

widest_fits : fit widest ≡ true
unfolding widest each every all within passing first fitness.larger
    fitness.is_step fitness.other_fits fitness.variable_fits fitness.value_fits fitness.used_step fitness.unused_step fitness.mentioned
    fitness.step_fits fitness.steps_fit table.first_of fitness.both_start fitness.both_critical fitness.program_fits fitness.place_fits
    fitness.length_fits fitness.places_fit fitness.lemma_fits fitness.lemmas_fit fitness.fit
widest_fits = refl

-- the last of its 1685 clauses: some item differs between times 0 and 1
sharp : length (get_or (clauses widest) 1684 []) ≡ longest
unfolding widest each
    exclusion.exclusion exclusion.excluding numbering.helpers_for numbering.pairs_below numbering.helpers numbering.item numbering.turn
    numbering.helper numbering.difference table.action_of table.process table.action table.own_below
    family.some_step family.excludes family.leads family.turns family.assigning family.assignments family.variables family.differ
    family.between family.lemma_clauses family.word_clauses family.free_clauses family.clauses
sharp = refl
