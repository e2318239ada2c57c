-- The groups so far stand in the buffer.
use Rattle.std.proofs.Common.{◌≡◌}
use Rattle.lists.specs.Rows.{each}
use Rattle.lists.specs.Writing.{write}
use Rattle.job.specs.ReadOff.{run_read, group}
use Rattle.readoff.proofs.Values.write_run.Given as goal

abbrev pub invariant-loop-t : goal.invariant-loop-t
invariant-loop-t l =
    l.run ≡ write l.initial.run 0 (each l.t (group l.self.fit.now.job.program (run_read l.self.fit.now.job.program l.self.bytes.now)))
