use Rattle.std.proofs.Common.{◌≡◌, map, length}
use Rattle.std.specs.List.{flat_map}
use Rattle.sol_names.specs.Least.{least_from, least_in}
use Rattle.sol_names.specs.Units.{member_name, members}
use Rattle.sol_names.specs.Orders.{repeated, named_twice}
use Rattle.sol_names.proofs.contracts.twice_named.Given as goal

abbrev pub invariant-loop-rest : goal.invariant-loop-rest
invariant-loop-rest l = least_from l.least (flat_map (λ u. repeated (map member_name (members u))) l.rest) ≡ least_in (named_twice l.units)

abbrev pub decreases-loop-rest : goal.decreases-loop-rest
decreases-loop-rest l = length l.rest
