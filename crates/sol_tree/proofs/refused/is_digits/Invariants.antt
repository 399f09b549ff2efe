use Rattle.std.proofs.Common.{◌≡◌, length}
use Rattle.sol_tree.specs.Refused.{is_digits}
use Rattle.sol_tree.proofs.refused.is_digits.Given as goal

abbrev pub invariant-loop-rest : goal.invariant-loop-rest
invariant-loop-rest l = is_digits l.rest ≡ is_digits l.fn.text

abbrev pub decreases-loop-rest : goal.decreases-loop-rest
decreases-loop-rest l = length l.rest
