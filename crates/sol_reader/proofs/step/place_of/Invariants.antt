use Rattle.std.proofs.Common.{◌≡◌, ◌+◌, length}
use Rattle.sol_reader.specs.Reading.{place_from}
use Rattle.sol_reader.proofs.step.place_of.Given as goal

abbrev pub invariant-loop-rest : goal.invariant-loop-rest
invariant-loop-rest l = (place_from l.place l.name l.rest ≡ place_from 0 l.fn.name l.fn.variables) × (l.place + length l.rest ≡ length l.fn.variables)

abbrev pub decreases-loop-rest : goal.decreases-loop-rest
decreases-loop-rest l = length l.rest
