use Rattle.std.proofs.Common.{◌≡◌, map, take}
use Rattle.sol_names.specs.Names.{identifier_of}
use Rattle.sol_names.specs.Units.{member_name}
use Rattle.sol_names.proofs.contracts.member_names.Given as goal

abbrev pub invariant-loop-member : goal.invariant-loop-member
invariant-loop-member l = map identifier_of l.names.items ≡ map member_name (take l.member-index l.members)
