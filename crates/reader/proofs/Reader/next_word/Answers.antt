-- Behind the word is what is left.
use Rattle.std.proofs.Common.{refl, drop, arith}
use Rattle.lists.specs.Pieces.{up_to}
use Rattle.reader.proofs.PartLaws.{parted}
use Rattle.reader.proofs.Reader.next_word.Goals as goal

pub returns-clause-words : goal.returns-clause-words
returns-clause-words c =
    let r = c.args.self.now in
    let l = c.word_at-word.ensures.length in
    parted 32 r.text.now r.at _ _ (up_to 32 (drop r.at r.text.now)) r.within refl (rw l) (rw (c.from.ensures, l) (omega arith))
