use Rattle.std.proofs.Common.{◌≡◌, Bool, length, slice_index, subst, arith}
use Rattle.sol_names.specs.Known.{Settles}
use Rattle.sol_names.proofs.Settling.{settling-start, settling-true, settling-false, settling-end}
use Rattle.sol_names.proofs.linearize.settle_all.Goals as goal

pub loop-rest-init : goal.loop-rest-init
loop-rest-init c = settling-start c.args.graph.now c.args.unit c.args.schedule.now c.args.orders.now c.requires.size c.requires.right c.requires.schedule

pub settle-requires-clause-size : goal.settle-requires-clause-size
settle-requires-clause-size c = c.loop-rest.invariant.size

pub settle-requires-clause-right : goal.settle-requires-clause-right
settle-requires-clause-right c = c.loop-rest.invariant.right

pub loop-rest-preserved : goal.loop-rest-preserved
loop-rest-preserved c =
    let g = c.args.graph.now in
    let used = c.args.used.now in
    let os = c.loop-rest.orders in
    let rest = c.loop-rest.rest.now in
    let new = c.settle.new.orders in
    let size : length new ≡ length os = omega arith in
    settling-true g c.args.unit used c.args.schedule.now rest os new c.in-len1-up.len_at_least c.requires.below c.requires.size_used c.requires.used size
    (subst (λ (b : Bool). Settles g used os (slice_index rest 0) b new) c.if-not-branch.false c.in_ok-settle.ensures.settles)
    c.loop-rest.invariant

pub returns-then-not-branch-clause-settles : goal.returns-then-not-branch-clause-settles
returns-then-not-branch-clause-settles c =
    let g = c.args.graph.now in
    let used = c.args.used.now in
    let os = c.loop-rest.orders in
    let rest = c.loop-rest.rest.now in
    let new = c.settle.new.orders in
    settling-false g c.args.unit used c.args.schedule.now rest os new c.in-len1-up.len_at_least c.requires.schedule
    (subst (λ (b : Bool). Settles g used os (slice_index rest 0) b new) c.if-not-branch.true c.in_ok-settle.ensures.settles)
    c.loop-rest.invariant

pub returns-clause-settles : goal.returns-clause-settles
returns-clause-settles c = settling-end c.args.graph.now c.args.unit c.args.schedule.now c.loop-rest.rest.now c.loop-rest.orders c.in_default.len_below c.requires.schedule c.loop-rest.invariant
