use Rattle.std.proofs.Common.{rules, ap}
use Rattle.pool_lock.proofs.Closing.{joins-at}
use Rattle.pool_lock.proofs.lock.PoolLock.join.Goals as goal

pub join_seat-requires : goal.join_seat-requires
join_seat-requires g c =
    let m = c.requires.idle in
    let q = c.requires.other in
    (c.requires.own.0, c.requires.own.1, ap (λ n. n.1) q.1, search rules, joins-at g.T.Growing.list g.T.Growing.root c.args.self.now.table.shared.key c.args.seat.now.id c.args.seat.now.me m.0 m.1 c.args.other.id c.args.other.me q.0 m.2 q.1)
