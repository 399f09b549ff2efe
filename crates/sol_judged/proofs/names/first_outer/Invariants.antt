use Rattle.std.proofs.Common.{◌≡◌, length}
use Rattle.sol_judged.specs.Names.{first_outer}
use Rattle.sol_judged.proofs.names.first_outer.Given as goal

abbrev pub invariant-loop-rest : goal.invariant-loop-rest
invariant-loop-rest l = first_outer l.rest l.members l.name ≡ first_outer l.units l.members l.name

abbrev pub decreases-loop-rest : goal.decreases-loop-rest
decreases-loop-rest l = length l.rest
