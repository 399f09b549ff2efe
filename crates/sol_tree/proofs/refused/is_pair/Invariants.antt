use Rattle.std.proofs.Common.{◌≡◌, length}
use Rattle.sol_tree.specs.Refused.{is_pair}
use Rattle.sol_tree.proofs.refused.is_pair.Given as goal

abbrev pub invariant-loop-rest : goal.invariant-loop-rest
invariant-loop-rest l = is_pair l.rest ≡ is_pair l.fn.text

abbrev pub decreases-loop-rest : goal.decreases-loop-rest
decreases-loop-rest l = length l.rest
