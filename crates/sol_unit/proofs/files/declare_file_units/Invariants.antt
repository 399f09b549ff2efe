use Rattle.std.proofs.Common.{◌≡◌, drop}
use Rattle.sol_unit.specs.Lineages.{making}
use Rattle.sol_unit.specs.Files.{file_units}
use Rattle.sol_unit.proofs.files.declare_file_units.Given as goal

abbrev pub invariant-loop-unit : goal.invariant-loop-unit
invariant-loop-unit l = file_units l.names 0 (making l.initial.entries.items l.initial.tables) l.units ≡ file_units l.names l.place (making l.entries.items l.tables) (drop l.unit-index l.units)
