use Rattle.std.proofs.Common.{ℕ, ◌<◌, sym, subst}
use Rattle.pool_lock.specs.Calls.{IsOurs}
use Rattle.pool_bench.proofs.crew.publish_all.Goals as goal

pub for_each_mut-requires-clause-accepts : goal.for_each_mut-requires-clause-accepts
for_each_mut-requires-clause-accepts g c κs within i p below same = subst (IsOurs c.args.lock.now.table.shared.table_id) (sym same) (c.requires.ours i p.now below)

pub returns : goal.returns
returns g c k d below =
    let h = c.for_each_mut.ensures k d (subst (λ (n : ℕ). k < n) c.for_each_mut.auto.s below) in
    subst (IsOurs c.args.lock.now.table.shared.table_id) h.1.left h.1.call
