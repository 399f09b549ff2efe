use Rattle.std.proofs.Common.{◌≡◌, drop}
use Rattle.sol_unit.specs.Lineages.{making, declared_units}
use Rattle.sol_unit.proofs.lineages.declare_units.Given as goal

abbrev pub invariant-loop-place : goal.invariant-loop-place
invariant-loop-place l = declared_units l.names l.units (making l.initial.entries.items l.initial.tables) l.places ≡ declared_units l.names l.units (making l.entries.items l.tables) (drop l.place-index l.places)
