use Rattle.std.proofs.Common.{◌≡◌, drop}
use Rattle.sol_unit.specs.Lineages.{making, read_in}
use Rattle.sol_unit.specs.Outers.{outer_members}
use Rattle.sol_unit.proofs.outers.declare_outers.Given as goal

abbrev pub invariant-loop-member : goal.invariant-loop-member
invariant-loop-member l =
    let w = read_in l.fn.names l.unit in
    outer_members w l.unit (making l.initial.entries.items l.initial.functions) l.members ≡ outer_members w l.unit (making l.entries.items l.functions) (drop l.member-index l.members)
