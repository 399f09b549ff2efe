use Rattle.std.proofs.Common.{◌≡◌, rules, ◌∙◌}
use Rattle.pool_lock.proofs.Turns.{waits-at}
use Rattle.pool_lock.proofs.Sections.{turn-is}
use Rattle.pool_lock.proofs.lock.PoolLock.wait.Goals as goal

pub load-found-requires : goal.load-found-requires
load-found-requires g c =
    let t = c.requires.ticket in
    (search rules, search rules, waits-at g.T.Growing.list g.T.Growing.root c.args.self.now.table.shared.key _ _ t.0 _ t.2.0 (c.loop-turn.invariant.me ∙ t.2.1))

pub returns-then-found-ticket-clause-served : goal.returns-then-found-ticket-clause-served
returns-then-found-ticket-clause-served g c =
    let t = c.requires.ticket in
    let hit : c.load-found.result ≡ c.args.ticket = search rules in
    turn-is g.T.Growing.list g.T.Growing.root c.args.seat.now.me c.loop-turn.seat.me c.load-found.new.seat.me c.args.ticket c.load-found.result t.0 t.2.0 t.1 t.2.1 c.loop-turn.invariant.me c.load-found.ensures.2 hit
