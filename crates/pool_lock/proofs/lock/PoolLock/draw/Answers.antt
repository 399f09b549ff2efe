use Rattle.std.proofs.Common.{rules}
use Rattle.pool_lock.proofs.Turns.{draws-at}
use Rattle.pool_lock.proofs.lock.PoolLock.draw.Goals as goal

pub fetch_add-requires : goal.fetch_add-requires
fetch_add-requires g c = (search rules, search rules, draws-at g.T.Growing.list g.T.Growing.root c.args.self.now.table.shared.key _ _ _ c.requires.idle.0 c.requires.idle.1)
