use Rattle.std.proofs.Common.{◌≡◌, ◌≤◌, ◌-◌, vec_len}
use Rattle.std.specs.Io.KnownBytes.{Consumes}
use Rattle.sol_outside.proofs.parts.read_all.Given as goal

abbrev pub invariant-loop-bytes : goal.invariant-loop-bytes
invariant-loop-bytes g l = (g.R.ByteReader.faults l.reader ≡ g.R.ByteReader.faults l.fn.reader) × (vec_len l.bytes ≤ l.max) × Consumes (g.R.ByteReader.left l.fn.reader) (g.R.ByteReader.left l.reader) l.bytes.items

abbrev pub decreases-loop-bytes : goal.decreases-loop-bytes
decreases-loop-bytes g l = l.max - vec_len l.bytes
