use Rattle.std.proofs.Common.{rules}
use Rattle.pool_lock.proofs.Opening.{fetches-at, fills-at, filling-is, filled-is}
use Rattle.pool_lock.proofs.lock.PoolLock.fill.Goals as goal

pub load-requires : goal.load-requires
load-requires g c = (search rules, search rules, fetches-at g.T.Growing.list g.T.Growing.root c.args.self.now.table.shared.key _ _ _ c.requires.empty)

pub store-requires : goal.store-requires
store-requires g c =
    let key = c.args.self.now.table.shared.key in
    let e = filling-is key c.args.seat.now.me c.load.new.seat.me c.put_back.new.seat.me c.args.value c.requires.empty c.load.ensures.2 c.put_back.ensures.full in
    (search rules, search rules, fills-at g.T.Growing.list g.T.Growing.root key _ _ _ c.args.value c.len-count.result c.len-count.ensures.is c.len-count.ensures.short e)

pub returns-clause-filled : goal.returns-clause-filled
returns-clause-filled g c =
    let key = c.args.self.now.table.shared.key in
    let e = filling-is key c.args.seat.now.me c.load.new.seat.me c.put_back.new.seat.me c.args.value c.requires.empty c.load.ensures.2 c.put_back.ensures.full in
    filled-is g.T.Growing.list g.T.Growing.root key c.put_back.new.seat.me c.store.new.seat.me c.args.value e c.store.ensures.2
