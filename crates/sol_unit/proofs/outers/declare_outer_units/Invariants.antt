use Rattle.std.proofs.Common.{◌≡◌, drop}
use Rattle.sol_unit.specs.Lineages.{making}
use Rattle.sol_unit.specs.Outers.{outer_units}
use Rattle.sol_unit.proofs.outers.declare_outer_units.Given as goal

abbrev pub invariant-loop-unit : goal.invariant-loop-unit
invariant-loop-unit l = record {
  made : outer_units l.fn.names l.units l.orders 0 (making l.initial.entries.items l.initial.functions) l.units ≡ outer_units l.fn.names l.units l.orders l.place (making l.entries.items l.functions) (drop l.unit-index l.units);
  names : l.names ≡ l.fn.names;
}
