use Rattle.pool_lock.proofs.Sections.{entered, may-return, looked-at, looked-is}
use Rattle.pool_lock.proofs.lock.PoolLock.look_in_turn.Goals as goal

pub leave_looked-requires-clause-served : goal.leave_looked-requires-clause-served
leave_looked-requires-clause-served g c =
    let h = c.requires.ours in
    let r = g.T.Growing.root c.enter-value.result in
    let all = g.T.Growing.list c.enter-value.result in
    may-return r all h.1 c.enter-value.new.seat.me (entered c.args.pass.now.seat.me c.enter-value.new.seat.me h.1 r all h.3 c.enter-value.ensures.served)

pub leave-requires-clause-served : goal.leave-requires-clause-served
leave-requires-clause-served g c =
    let h = c.requires.ours in
    let r = g.T.Growing.root c.enter-value.result in
    let all = g.T.Growing.list c.enter-value.result in
    may-return r all h.1 c.enter-value.new.seat.me (entered c.args.pass.now.seat.me c.enter-value.new.seat.me h.1 r all h.3 c.enter-value.ensures.served)

pub returns-in-Ok-clause-looked : goal.returns-in-Ok-clause-looked
returns-in-Ok-clause-looked g c =
    let h = c.requires.ours in
    let r = g.T.Growing.root c.enter-value.result in
    let all = g.T.Growing.list c.enter-value.result in
    let e = entered c.args.pass.now.seat.me c.enter-value.new.seat.me h.1 r all h.3 c.enter-value.ensures.served in
    looked-is c.args.pass.now.seat.me c.enter-value.new.seat.me c.leave_looked.new.seat.me h.1 r all h.3 e (looked-at c.enter-value.new.seat.me c.leave_looked.new.seat.me h.1 r all e c.leave_looked.ensures.looked)
