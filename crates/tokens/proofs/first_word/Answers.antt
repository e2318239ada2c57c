-- `-` is taken off before the digits are read.
use Rattle.std.proofs.Common.{◌+◌, ap}
use Rattle.tokens.proofs.NumberLaws.{minus_word, plain_word}
use Rattle.tokens.proofs.first_word.Goals as goal

pub returns-in-Some : goal.returns-in-Some
returns-in-Some c =
    let minus = c.in-Some.ensures.cases in
    let word = c.unsigned-word.ensures in
    minus_word _ c.args.rest.now _ minus.0 minus.1 word.token (ap (λ n. 1 + n) word.length)

pub returns-in-None : goal.returns-in-None
returns-in-None c = plain_word _ c.args.rest.now c.in-None.ensures.cases c.unsigned.ensures.token c.unsigned.ensures.length
