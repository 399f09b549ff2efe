use Rattle.std.proofs.Common.{rules}
use Rattle.pool_lock.proofs.Opening.{splits-at}
use Rattle.pool_lock.proofs.lock.PoolLock.split.Goals as goal

pub split_seat-requires : goal.split_seat-requires
split_seat-requires g c =
    let m = c.requires.more in
    (search rules, search rules, splits-at g.T.Growing.list g.T.Growing.root c.args.self.now.table.shared.key c.args.seat.now.id c.args.seat.now.me m.0 m.1 m.2 m.3)
