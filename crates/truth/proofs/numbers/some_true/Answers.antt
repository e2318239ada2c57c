-- A true number was found.
use Rattle.std.proofs.Common.{rules}
use Rattle.truth.proofs.TruthLaws.{some_found}
use Rattle.truth.proofs.numbers.some_true.Goals as goal

pub returns-then-number_true : goal.returns-then-number_true
returns-then-number_true c =
    some_found c.args.values.now c.args.clause.now c.loop-z.z-index c.loop-z-test.true (search rules)
