use Rattle.std.proofs.Common.{◌≡◌, ◌∙◌, [], ◌∷◌, ℕ, List, Some, sym, ap, subst, slice_index}
use Rattle.sol_names.specs.Known.{Finds}
use Rattle.sol_names.proofs.Ordering.{right-below}
use Rattle.sol_names.proofs.Settling.{bases-below, first-below, only-one, if-ok, finds-next, finds-over}
use Rattle.sol_names.proofs.linearize.order_of.Goals as goal

pub order_over-requires-clause-base : goal.order_over-requires-clause-base
order_over-requires-clause-base c =
    first-below _ c.args.bases.now c.in-len1.len_at_least (bases-below c.args.graph.now c.args.unit _ c.args.bases.now c.requires.size c.requires.below c.requires.bases)

pub next_order-requires-clause-orders : goal.next_order-requires-clause-orders
next_order-requires-clause-orders c = right-below c.args.graph.now c.args.orders.now _ c.requires.size c.requires.below c.requires.right

pub next_order-requires-clause-bases : goal.next_order-requires-clause-bases
next_order-requires-clause-bases c = bases-below c.args.graph.now c.args.unit _ c.args.bases.now c.requires.size c.requires.below c.requires.bases

pub returns-in-len1-clause-order : goal.returns-in-len1-clause-order
returns-in-len1-clause-order c =
    let g = c.args.graph.now in
    let os = c.args.orders.now in
    let bs = c.args.bases.now in
    let w = c.args.unit in
    let one : bs ≡ slice_index bs 0 ∷ [] = only-one bs c.in-len1.len_at_least c.in-len1.len_below in
    if-ok _ (Finds g os bs w) (λ o e. subst (λ (cs : List ℕ). Finds g os cs w o) (sym one) (finds-over g os (slice_index bs 0) w o c.requires.right (c.requires.bases ∙ ap Some one) e)) c.order_over.result c.order_over.ensures.order

pub returns-in_default-clause-order : goal.returns-in_default-clause-order
returns-in_default-clause-order c =
    if-ok _ (Finds c.args.graph.now c.args.orders.now c.args.bases.now c.args.unit) (λ o e. finds-next c.args.graph.now c.args.orders.now c.args.bases.now c.args.unit o c.requires.right c.requires.bases e) c.next_order.result c.next_order.ensures
