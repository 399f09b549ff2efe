use Rattle.std.proofs.Common.{rules, ap, ◌∙◌}
use Rattle.pool_lock.specs.Views.{with_seen}
use Rattle.pool_lock.specs.Told.{saw, list_in}
use Rattle.pool_lock.proofs.Events.{looks-at}
use Rattle.pool_lock.proofs.Sections.{back-in}
use Rattle.pool_lock.proofs.lock.PoolLock.leave_looked.Goals as goal

pub fetch_add-requires : goal.fetch_add-requires
fetch_add-requires g c =
    let s = c.requires.served in
    let e = back-in c.args.seat.now.me c.put_back.new.seat.me s.1 s.0 (g.T.Growing.list c.args.value) c.args.value s.5 c.put_back.ensures.full in
    (search rules, search rules, looks-at g.T.Growing.list g.T.Growing.root c.args.self.now.table.shared.key _ _ s.0 _ s.1 c.args.value e)

pub pass_on-requires-clause-back : goal.pass_on-requires-clause-back
pass_on-requires-clause-back g c =
    let s = c.requires.served in
    let e = back-in c.args.seat.now.me c.put_back.new.seat.me s.1 s.0 (g.T.Growing.list c.args.value) c.args.value s.5 c.put_back.ensures.full in
    (s.0, with_seen (g.T.Growing.list c.args.value) s.1, s.2, c.args.value, s.3, s.4, c.fetch_add.ensures.2 ∙ ap (λ m. (saw (list_in g.T.Growing.list m.1) m.0, m.1)) e)
