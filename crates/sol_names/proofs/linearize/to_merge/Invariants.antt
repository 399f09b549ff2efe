use Rattle.std.proofs.Common.{◌≡◌, ◌++◌, Some, length}
use Rattle.chc_nums.specs.Values.{with_value}
use Rattle.sol_names.specs.Tails.{views}
use Rattle.sol_names.specs.Known.{all_known}
use Rattle.sol_names.proofs.linearize.to_merge.Given as goal

abbrev pub invariant-loop-rest : goal.invariant-loop-rest
invariant-loop-rest l = with_value (all_known l.orders l.rest) (λ ls. Some (views l.lists.items ++ ls)) ≡ all_known l.orders l.bases

abbrev pub decreases-loop-rest : goal.decreases-loop-rest
decreases-loop-rest l = length l.rest
