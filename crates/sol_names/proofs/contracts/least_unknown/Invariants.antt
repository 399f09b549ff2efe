use Rattle.std.proofs.Common.{◌≡◌, length}
use Rattle.sol_names.specs.Least.{least_from}
use Rattle.sol_names.specs.Orders.{unknown_among}
use Rattle.sol_names.proofs.contracts.least_unknown.Given as goal

abbrev pub invariant-loop-rest : goal.invariant-loop-rest
invariant-loop-rest l = least_from l.least (unknown_among l.units l.rest) ≡ least_from l.fn.least (unknown_among l.units l.bases)

abbrev pub decreases-loop-rest : goal.decreases-loop-rest
decreases-loop-rest l = length l.rest
