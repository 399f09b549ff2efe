use Rattle.std.proofs.Common.{◌≡◌, length}
use Rattle.sol_core.specs.Formed.{has_door_named}
use Rattle.sol_core.proofs.forming.has_door_named.Given as goal

abbrev pub invariant-loop-rest : goal.invariant-loop-rest
invariant-loop-rest l = has_door_named l.p l.rest l.name ≡ has_door_named l.p l.doors l.name

abbrev pub decreases-loop-rest : goal.decreases-loop-rest
decreases-loop-rest l = length l.rest
