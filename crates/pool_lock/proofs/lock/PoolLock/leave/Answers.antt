use Rattle.pool_lock.proofs.Sections.{back-in}
use Rattle.pool_lock.proofs.lock.PoolLock.leave.Goals as goal

pub pass_on-requires-clause-back : goal.pass_on-requires-clause-back
pass_on-requires-clause-back g c =
    let s = c.requires.served in
    (s.0, s.1, s.2, c.args.value, s.3, s.4, back-in c.args.seat.now.me c.put_back.new.seat.me s.1 s.0 (g.T.Growing.list c.args.value) c.args.value s.5 c.put_back.ensures.full)
