use Rattle.std.proofs.Common.{rules, ap, ◌∙◌, length, drop}
use Rattle.pool_lock.specs.Entries.{items_of}
use Rattle.pool_lock.specs.Views.{with_more}
use Rattle.pool_lock.specs.Told.{put, list_in}
use Rattle.pool_lock.proofs.Events.{publishes-at}
use Rattle.pool_lock.proofs.Sections.{back-in, published-is}
use Rattle.pool_lock.proofs.lock.PoolLock.leave_published.Goals as goal

pub fetch_add-at-requires : goal.fetch_add-at-requires
fetch_add-at-requires g c =
    let s = c.requires.served in
    let e = back-in c.args.seat.now.me c.put_back.new.seat.me s.1 s.0 s.3 c.args.value s.8 c.put_back.ensures.full in
    (search rules, search rules, publishes-at g.T.Growing.list g.T.Growing.root c.args.self.now.table.shared.key _ _ s.0 _ s.1 s.3 s.4 c.args.value s.7 c.requires.short e)

pub pass_on-requires-clause-back : goal.pass_on-requires-clause-back
pass_on-requires-clause-back g c =
    let s = c.requires.served in
    let e = back-in c.args.seat.now.me c.put_back.new.seat.me s.1 s.0 s.3 c.args.value s.8 c.put_back.ensures.full in
    (s.0, with_more (λ k. items_of k (length s.3) (drop (length s.3) (g.T.Growing.list c.args.value))) s.1, s.2, c.args.value, s.5, s.6, c.fetch_add-at.ensures.2.1 ∙ ap (λ m. (put (list_in g.T.Growing.list m.1) m.0, m.1)) e)

pub returns-clause-published : goal.returns-clause-published
returns-clause-published g c t p xs item served more = published-is g.T.Growing.list c.args.seat.now.me c.put_back.new.seat.me c.fetch_add-at.new.seat.me c.pass_on.new.seat.me p t xs item c.args.value c.fetch_add-at.result served more c.requires.short c.put_back.ensures.full c.fetch_add-at.ensures.2 c.pass_on.ensures.passed
