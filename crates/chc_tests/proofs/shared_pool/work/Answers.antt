use Rattle.std.proofs.Common.{ℕ, ◌<◌, subst}
use Rattle.pool_lock.specs.Calls.{IsOurs}
use Rattle.chc_tests.proofs.shared_pool.work.Goals as goal

pub returns : goal.returns
returns g c k d below =
    let h = c.for_each_mut.ensures k d (subst (λ (n : ℕ). k < n) c.for_each_mut.auto.s below) in
    subst (IsOurs c.args.lock.now.table.shared.table_id) h.1.left h.1.call
