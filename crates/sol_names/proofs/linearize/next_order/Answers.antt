use Rattle.sol_names.specs.Tails.{views}
use Rattle.sol_names.proofs.Ordering.{merge-size}
use Rattle.sol_names.proofs.linearize.next_order.Goals as goal

pub merged-requires : goal.merged-requires
merged-requires c = merge-size _ c.args.orders.now c.args.bases.now (views c.in-Some.lists.items) c.requires.orders c.requires.bases (rw c.in-Some.is at c.in_ok-lists.ensures)
