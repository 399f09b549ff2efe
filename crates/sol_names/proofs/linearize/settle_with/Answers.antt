use Rattle.std.proofs.Common.{◌≡◌, ◌<◌, ℕ, None, length, sym, subst, arith}
use Rattle.sol_names.specs.Linearization.{Linearizes}
use Rattle.sol_names.specs.Tails.{Below}
use Rattle.sol_names.specs.Known.{Finds}
use Rattle.sol_names.proofs.Settling.{settles-true, settles-false}
use Rattle.sol_names.proofs.linearize.settle_with.Goals as goal

pub forget-requires-clause-bases : goal.forget-requires-clause-bases
forget-requires-clause-bases c =
    let size : length c.order_of.new.orders ≡ length c.args.graph.now = omega arith in
    subst (λ (n : ℕ). Below n c.args.bases.now) (sym size) c.requires.bases_below

pub returns-in-None-clause-settles : goal.returns-in-None-clause-settles
returns-in-None-clause-settles c =
    let finds : Finds c.args.graph.now c.args.orders.now c.args.bases.now c.args.unit None = rw c.in-None.is at c.in_ok-order_of.ensures.order in
    settles-false c.args.graph.now c.args.used.now c.args.bases.now c.args.orders.now c.order_of.new.orders c.args.unit c.requires.bases finds

pub returns-in-Some-clause-settles : goal.returns-in-Some-clause-settles
returns-in-Some-clause-settles c =
    let found : Linearizes c.args.graph.now c.args.unit c.in-Some.order = rw c.in-Some.is at c.in_ok-order_of.ensures.order in
    let within : c.args.unit < length c.forget.new.orders = omega arith in
    settles-true c.args.graph.now c.args.used.now c.args.bases.now c.args.orders.now c.order_of.new.orders c.forget.new.orders c.args.unit c.in-Some.order c.requires.bases found c.in_ok-order_of.ensures.kept c.forget.ensures.kept within
