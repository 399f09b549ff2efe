use Rattle.std.proofs.Common.{◌≡◌, ◌+◌, ◌<◌, ◌++◌, ℕ, map, length, slice_index}
use Rattle.sol_names.specs.Linearization.{without_head}
use Rattle.sol_names.specs.Tails.{views, AllBelow, times_in_tails}
use Rattle.sol_names.proofs.merge.without_heads.Given as goal

abbrev pub invariant-loop-rest : goal.invariant-loop-rest
invariant-loop-rest l = record {
  below : AllBelow (length l.counts) (views l.rest);
  lists : views l.left.items ++ map (without_head l.head) (views l.rest) ≡ map (without_head l.head) (views l.lists);
  counts : (u : ℕ) → u < length l.counts → slice_index l.counts u ≡ times_in_tails u (views l.left.items) + times_in_tails u (views l.rest);
}

abbrev pub decreases-loop-rest : goal.decreases-loop-rest
decreases-loop-rest l = length l.rest
