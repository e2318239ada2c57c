-- The part stands at its place, where it has room.
use Rattle.std.proofs.Common.{refl, arith, ◌∙◌, length}
use Rattle.std.proofs.lemmas.Slice.{put_mid-paste}
use lib.Seq.{take-length}
use Rattle.put.proofs.PutLaws.{adds_whole, adds_not}
use Rattle.put.proofs.Page.part.Goals as goal
use Rattle.put.proofs.Page.part.Goals.{else-end-self-via-then-end-self+else-part-self, else-end-self-via-else-end-self}

pub returns-then-part-self : goal.returns-then-part-self
returns-then-part-self c =
    let page = c.args.self.now in
    let part = c.args.part.now in
    adds_whole page part _ (omega arith) refl refl (
    put_mid-paste page.end _ page.out.now _ part (length part) c.copy.ensures (omega arith) refl
    ∙ rw (take-length part)
    )

pub returns-else-end-self : goal.returns-else-end-self
returns-else-end-self c =
    elim c.else-end-self.branch [
      | else-end-self-via-then-end-self+else-part-self w ↦ adds_not c.args.self.now _ (omega arith)
      | else-end-self-via-else-end-self w ↦ adds_not c.args.self.now _ (omega arith)
    ]
