use Rattle.std.proofs.Common.{◌≡◌, map, take}
use Rattle.sol_names.specs.Names.{identifier_of}
use Rattle.sol_names.specs.Units.{unit_name}
use Rattle.sol_names.proofs.contracts.unit_names.Given as goal

abbrev pub invariant-loop-unit : goal.invariant-loop-unit
invariant-loop-unit l = map identifier_of l.names.items ≡ map unit_name (take l.unit-index l.units)
