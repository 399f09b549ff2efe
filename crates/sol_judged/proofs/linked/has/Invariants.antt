use Rattle.std.proofs.Common.{◌≡◌, length}
use Rattle.sol_judged.specs.Names.{has}
use Rattle.sol_judged.proofs.linked.has.Given as goal

abbrev pub invariant-loop-rest : goal.invariant-loop-rest
invariant-loop-rest l = has l.rest l.unit ≡ has l.units l.unit

abbrev pub decreases-loop-rest : goal.decreases-loop-rest
decreases-loop-rest l = length l.rest
