-- Each time reads, and its group is one more part of the run.
use Rattle.std.proofs.Common.{◌≡◌, ap, ◌∙◌, suc, arith}
use Rattle.lists.specs.Writing.{write}
use Rattle.lists.specs.Rows.{each}
use Rattle.lists.proofs.TestLaws.{all_at}
use Rattle.lists.proofs.WritingLaws.{parts_begin}
use Rattle.job.specs.ReadOff.{reads_at, run_read, group, run_bytes}
use Rattle.readoff.proofs.ReadingLaws.{length_group, length_groups, row_put}
use Rattle.readoff.proofs.Values.write_run.Goals as goal

pub loop-t-init : goal.loop-t-init
loop-t-init c = parts_begin _ 0 _

pub put_group-requires-clause-reads : goal.put_group-requires-clause-reads
put_group-requires-clause-reads c =
    let v = c.args.self.now in
    let p = v.fit.now.job.program in
    all_at (reads_at p v.bytes.now) (suc p.bound) c.requires.reads c.loop-t.t (omega arith)

pub loop-t-preserved : goal.loop-t-preserved
loop-t-preserved c =
    let v = c.args.self.now in
    let p = v.fit.now.job.program in
    let t = c.loop-t.t in
    let groups = group p (run_read p v.bytes.now) in
    let all = length_groups p v.bytes.now (suc p.bound) (omega arith) in
    let before = length_groups p v.bytes.now t (omega arith) in
    let one = length_group p v.bytes.now t (omega arith) in
    row_put c.args.run.now c.loop-t.run groups t (suc p.bound) (omega arith) (omega (arith, c.requires.room)) c.loop-t.invariant _ _
    (omega arith) (omega arith) _ c.put_group.ensures

pub returns : goal.returns
unfolding run_bytes
returns c =
    let v = c.args.self.now in
    let p = v.fit.now.job.program in
    let last : c.loop-t.t ≡ suc p.bound = omega arith in
    c.loop-t.invariant ∙ ap (λ n. write c.args.run.now 0 (each n (group p (run_read p v.bytes.now)))) last
