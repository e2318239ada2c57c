-- Where the comments have room they are put whole.
use Rattle.text.specs.Comments.{comments}
use Rattle.outputs.proofs.PrintingLaws.{given_some, given_whole}
use Rattle.outputs.proofs.dimacs.put_comments.Goals as goal

pub unwrap-requires : goal.unwrap-requires
unwrap-requires c = given_some (comments c.args.text.now) c.args.out.now _ c.requires _ c.comment_text.ensures

pub returns : goal.returns
returns c = given_whole (comments c.args.text.now) c.args.out.now _ c.requires _ c.comment_text.ensures _ c.unwrap.ensures
