use Rattle.std.proofs.Common.{◌≡◌, length}
use Rattle.sol_names.specs.Linearization.{next_among, next_of}
use Rattle.sol_names.specs.Tails.{views, AllBelow}
use Rattle.sol_names.proofs.merge.next_head.Given as goal

abbrev pub invariant-loop-rest : goal.invariant-loop-rest
invariant-loop-rest l = (next_among (views l.lists) (views l.rest) ≡ next_of (views l.lists)) × AllBelow (length l.counts) (views l.rest)

abbrev pub decreases-loop-rest : goal.decreases-loop-rest
decreases-loop-rest l = length l.rest
