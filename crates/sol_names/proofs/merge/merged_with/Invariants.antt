use Rattle.std.proofs.Common.{length}
use Rattle.sol_names.specs.Tails.{views, AllBelow, AreTails}
use Rattle.sol_names.proofs.Merging.{Taken, total}
use Rattle.sol_names.proofs.merge.merged_with.Given as goal

abbrev pub invariant-loop-head : goal.invariant-loop-head
invariant-loop-head l = record {
  taken : Taken (views l.fn.lists.items) l.order (views l.left.items);
  below : AllBelow (length l.counts) (views l.left.items);
  counts : AreTails l.counts (views l.left.items);
}

abbrev pub decreases-loop-head : goal.decreases-loop-head
decreases-loop-head l = total (views l.left.items)
