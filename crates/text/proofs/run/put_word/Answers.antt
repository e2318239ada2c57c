-- The space and the name behind it.
use Rattle.put.proofs.PutLaws.{put_then, put_room}
use Rattle.text.proofs.run.put_word.Goals as goal

pub put_name-requires : goal.put_name-requires
put_name-requires c = put_room 4 c.put_byte.ensures c.requires

pub returns : goal.returns
returns c = put_then c.put_byte.ensures c.put_name.ensures c.requires
