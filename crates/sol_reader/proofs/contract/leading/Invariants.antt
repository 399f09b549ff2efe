use Rattle.std.proofs.Common.{◌≡◌, ◌+◌, length}
use Rattle.sol_reader.specs.Reading.{leading}
use Rattle.sol_reader.proofs.contract.leading.Given as goal

abbrev pub invariant-loop-rest : goal.invariant-loop-rest
invariant-loop-rest l = (l.count + leading l.rest ≡ leading l.fn.members) × (l.count + length l.rest ≡ length l.fn.members)

abbrev pub decreases-loop-rest : goal.decreases-loop-rest
decreases-loop-rest l = length l.rest
