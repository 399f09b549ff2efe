use Rattle.std.proofs.Common.{◌≡◌, length}
use Rattle.sol_core.specs.Formed.{are_doors}
use Rattle.sol_core.proofs.forming.are_doors.Given as goal

abbrev pub invariant-loop-rest : goal.invariant-loop-rest
invariant-loop-rest l = are_doors l.p l.rest ≡ are_doors l.p l.doors

abbrev pub decreases-loop-rest : goal.decreases-loop-rest
decreases-loop-rest l = length l.rest
