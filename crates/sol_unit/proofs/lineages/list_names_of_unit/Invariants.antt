use Rattle.std.proofs.Common.{◌≡◌, map, drop}
use Rattle.sol_judged.specs.Listed.{listed}
use Rattle.sol_unit.specs.Lineages.{names_of_unit}
use Rattle.sol_unit.proofs.lineages.list_names_of_unit.Given as goal

abbrev pub invariant-loop-member : goal.invariant-loop-member
invariant-loop-member l = names_of_unit l.unit (map listed l.initial.entries.items) l.members ≡ names_of_unit l.unit (map listed l.entries.items) (drop l.member-index l.members)
