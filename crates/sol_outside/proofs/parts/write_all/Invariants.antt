use Rattle.std.proofs.Common.{◌≡◌, ◌≤◌, ◌-◌, length, take}
use Rattle.sol_outside.specs.Causes.{Appended}
use Rattle.sol_outside.proofs.parts.write_all.Given as goal

abbrev pub invariant-loop-done : goal.invariant-loop-done
invariant-loop-done g l = (g.W.ByteWriter.faults l.writer ≡ g.W.ByteWriter.faults l.fn.writer) × (l.done ≤ length l.bytes) × Appended (g.W.ByteWriter.taken l.fn.writer) (g.W.ByteWriter.taken l.writer) (take l.done l.bytes)

abbrev pub decreases-loop-done : goal.decreases-loop-done
decreases-loop-done g l = length l.bytes - l.done
