-- The word is the bytes up to the space in the rest of the line, so it ends within it.
use Rattle.std.proofs.Common.{drop, length-drop, arith}
use Rattle.std.proofs.lemmas.List.{take_rest}
use Rattle.lists.proofs.PieceLaws.{length_up_to}
use Rattle.tokens.specs.Numbers.{first_word}
use Rattle.reader.proofs.word_at.Goals as goal

pub returns-clause-within : goal.returns-clause-within
unfolding first_word
returns-clause-within c =
    let a = c.args in
    rw (c.first_word.ensures, take_rest a.line.now a.at)
    (omega (arith, length_up_to 32 (drop a.at a.line.now), length-drop a.at a.line.now))
