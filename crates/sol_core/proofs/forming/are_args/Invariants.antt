use Rattle.std.proofs.Common.{◌≡◌, length}
use Rattle.sol_core.specs.Formed.{are_args}
use Rattle.sol_core.proofs.forming.are_args.Given as goal

abbrev pub invariant-loop-left : goal.invariant-loop-left
invariant-loop-left l = are_args l.p l.left l.rest ≡ are_args l.p l.types l.args

abbrev pub decreases-loop-left : goal.decreases-loop-left
decreases-loop-left l = length l.left
