use Rattle.std.proofs.Common.{◌≡◌, length}
use Rattle.sol_judged.specs.Names.{behind}
use Rattle.sol_judged.proofs.names.behind.Given as goal

abbrev pub invariant-loop-rest : goal.invariant-loop-rest
invariant-loop-rest l = behind l.rest l.unit ≡ behind l.units l.unit

abbrev pub decreases-loop-rest : goal.decreases-loop-rest
decreases-loop-rest l = length l.rest
