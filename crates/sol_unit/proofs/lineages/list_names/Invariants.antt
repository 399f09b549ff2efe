use Rattle.std.proofs.Common.{◌≡◌, map, drop}
use Rattle.sol_judged.specs.Listed.{listed}
use Rattle.sol_unit.specs.Lineages.{names_of_units}
use Rattle.sol_unit.proofs.lineages.list_names.Given as goal

abbrev pub invariant-loop-place : goal.invariant-loop-place
invariant-loop-place l = names_of_units l.units (map listed l.initial.entries.items) l.places ≡ names_of_units l.units (map listed l.entries.items) (drop l.place-index l.places)
