use Rattle.std.proofs.Common.{◌≡◌, [], map, drop}
use Rattle.sol_judged.specs.Listed.{listed}
use Rattle.sol_unit.specs.Files.{unit_names}
use Rattle.sol_unit.proofs.files.unit_names.Given as goal

abbrev pub invariant-loop-unit : goal.invariant-loop-unit
invariant-loop-unit l = unit_names 0 [] l.units ≡ unit_names l.place (map listed l.entries.items) (drop l.unit-index l.units)
