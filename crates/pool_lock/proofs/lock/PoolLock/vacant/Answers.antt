use Rattle.pool_lock.proofs.Opening.{begins}
use Rattle.pool_lock.proofs.lock.PoolLock.vacant.Goals as goal

pub vacant-requires : goal.vacant-requires
vacant-requires g c = begins g.T.Growing.list g.T.Growing.root c.args.passes c.requires.most
