-- The whole buffer is filled with zeros.
use Rattle.reply.proofs.ReplyLaws.{filled}
use Rattle.reply.proofs.clear.Goals as goal

pub returns : goal.returns
returns c = filled c.args.work.now _ (c.fill.ensures.after (λ y h. h))
