use Rattle.std.proofs.Common.{◌≡◌, length}
use Rattle.sol_tree.specs.Refused.{is_one_of, texts}
use Rattle.sol_tree.proofs.refused.is_one_of.Given as goal

abbrev pub invariant-loop-rest : goal.invariant-loop-rest
invariant-loop-rest l = is_one_of l.word (texts l.rest) ≡ is_one_of l.fn.word (texts l.fn.words)

abbrev pub decreases-loop-rest : goal.decreases-loop-rest
decreases-loop-rest l = length l.rest
