use Rattle.std.proofs.Common.{◌≡◌, ◌+◌, ◌<◌, ℕ, length, slice_index}
use Rattle.sol_names.specs.Tails.{views, AllBelow, times_in_tails}
use Rattle.sol_names.proofs.merge.tails.Given as goal

abbrev pub invariant-loop-rest : goal.invariant-loop-rest
invariant-loop-rest l = record {
  size : length l.counts.items ≡ l.size;
  below : AllBelow l.size (views l.rest);
  counts : (u : ℕ) → u < l.size → slice_index l.counts.items u + times_in_tails u (views l.rest) ≡ times_in_tails u (views l.lists);
}

abbrev pub decreases-loop-rest : goal.decreases-loop-rest
decreases-loop-rest l = length l.rest
