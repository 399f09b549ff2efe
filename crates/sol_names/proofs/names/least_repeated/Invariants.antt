use Rattle.std.proofs.Common.{length, map}
use Rattle.sol_names.specs.Least.{least_from}
use Rattle.sol_names.specs.Names.{identifier_of}
use Rattle.sol_names.specs.Orders.{repeated}
use Rattle.sol_names.proofs.Naming.{Repeats}
use Rattle.sol_names.proofs.names.least_repeated.Given as goal

abbrev pub invariant-loop-rest : goal.invariant-loop-rest
invariant-loop-rest l = Repeats l.seen l.least l.rest (least_from l.fn.least (repeated (map identifier_of l.names)))

abbrev pub decreases-loop-rest : goal.decreases-loop-rest
decreases-loop-rest l = length l.rest
