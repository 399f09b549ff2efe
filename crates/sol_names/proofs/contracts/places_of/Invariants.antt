use Rattle.std.proofs.Common.{◌≡◌, ◌++◌, length}
use Rattle.std.specs.List.{filter_map}
use Rattle.sol_names.specs.Units.{bases}
use Rattle.sol_names.specs.Orders.{contract_named}
use Rattle.sol_names.proofs.contracts.places_of.Given as goal

abbrev pub invariant-loop-rest : goal.invariant-loop-rest
invariant-loop-rest l = l.places.items ++ filter_map (λ b. contract_named b.name.name l.units) l.rest ≡ filter_map (λ b. contract_named b.name.name l.units) (bases l.unit)

abbrev pub decreases-loop-rest : goal.decreases-loop-rest
decreases-loop-rest l = length l.rest
