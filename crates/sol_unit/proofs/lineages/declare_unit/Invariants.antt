use Rattle.std.proofs.Common.{◌≡◌, drop}
use Rattle.sol_unit.specs.Lineages.{making, declared_unit}
use Rattle.sol_unit.proofs.lineages.declare_unit.Given as goal

abbrev pub invariant-loop-member : goal.invariant-loop-member
invariant-loop-member l = declared_unit l.names l.unit (making l.initial.entries.items l.initial.tables) l.members ≡ declared_unit l.names l.unit (making l.entries.items l.tables) (drop l.member-index l.members)
