use Rattle.pool_lock.proofs.Sections.{served-is}
use Rattle.pool_lock.proofs.lock.PoolLock.enter.Goals as goal

pub returns-clause-served : goal.returns-clause-served
returns-clause-served g c =
    let d = c.draw-ticket.ensures.drew in
    served-is g.T.Growing.list g.T.Growing.root c.args.seat.now.me c.draw-ticket.new.seat.me c.wait.new.seat.me c.take_out.new.seat.me d.0 c.take_out.result d.2 c.wait.ensures.served c.take_out.ensures.value c.take_out.ensures.empty
