use Rattle.std.proofs.Common.{◌≡◌, length}
use Rattle.sol_tree.specs.Refused.{is_sized}
use Rattle.sol_tree.proofs.refused.is_sized.Given as goal

abbrev pub invariant-loop-left : goal.invariant-loop-left
invariant-loop-left l = is_sized l.left l.rest ≡ is_sized l.fn.stem l.fn.word

abbrev pub decreases-loop-left : goal.decreases-loop-left
decreases-loop-left l = length l.left
