use Rattle.std.proofs.Common.{length}
use Rattle.sol_names.proofs.Settling.{Forgetting}
use Rattle.sol_names.proofs.linearize.forget.Given as goal

abbrev pub invariant-loop-rest : goal.invariant-loop-rest
invariant-loop-rest l = Forgetting l.used l.bases l.fn.orders l.rest l.orders

abbrev pub decreases-loop-rest : goal.decreases-loop-rest
decreases-loop-rest l = length l.rest
