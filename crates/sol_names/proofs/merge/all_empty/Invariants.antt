use Rattle.std.proofs.Common.{◌≡◌, length}
use Rattle.std.specs.List.{list_all}
use Rattle.sol_names.specs.Linearization.{is_empty}
use Rattle.sol_names.specs.Tails.{views}
use Rattle.sol_names.proofs.merge.all_empty.Given as goal

abbrev pub invariant-loop-rest : goal.invariant-loop-rest
invariant-loop-rest l = list_all is_empty (views l.rest) ≡ list_all is_empty (views l.lists)

abbrev pub decreases-loop-rest : goal.decreases-loop-rest
decreases-loop-rest l = length l.rest
