use Rattle.std.proofs.Common.{rules}
use Rattle.pool_lock.proofs.Turns.{passes-at}
use Rattle.pool_lock.proofs.lock.PoolLock.pass_on.Goals as goal

pub fetch_add-requires : goal.fetch_add-requires
fetch_add-requires g c =
    let b = c.requires.back in
    (search rules, search rules, passes-at g.T.Growing.list g.T.Growing.root c.args.self.now.table.shared.key _ _ b.0 _ b.1 b.2 b.3 b.4 b.5 b.6)
