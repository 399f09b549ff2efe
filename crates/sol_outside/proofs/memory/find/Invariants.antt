use Rattle.std.proofs.Common.{◌≡◌, length}
use Rattle.sol_outside.specs.Held.{held}
use Rattle.sol_outside.proofs.memory.find.Given as goal

abbrev pub invariant-loop-rest : goal.invariant-loop-rest
invariant-loop-rest l = held l.rest l.name ≡ held l.fn.files l.fn.name

abbrev pub decreases-loop-rest : goal.decreases-loop-rest
decreases-loop-rest l = length l.rest
