use Rattle.std.proofs.Common.{length}
use Rattle.sol_names.proofs.Settling.{Settling}
use Rattle.sol_names.proofs.linearize.settle_all.Given as goal

abbrev pub invariant-loop-rest : goal.invariant-loop-rest
invariant-loop-rest l = Settling l.graph l.unit l.schedule l.rest l.orders

abbrev pub decreases-loop-rest : goal.decreases-loop-rest
decreases-loop-rest l = length l.rest
