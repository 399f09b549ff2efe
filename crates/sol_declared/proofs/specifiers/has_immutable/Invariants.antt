use Rattle.std.proofs.Common.{◌≡◌, length}
use Rattle.sol_declared.specs.Specifiers.{is_there, is_immutable}
use Rattle.sol_declared.proofs.specifiers.has_immutable.Given as goal

abbrev pub invariant-loop-rest : goal.invariant-loop-rest
invariant-loop-rest l = is_there is_immutable l.fn.marks ≡ is_there is_immutable l.rest

abbrev pub decreases-loop-rest : goal.decreases-loop-rest
decreases-loop-rest l = length l.rest
