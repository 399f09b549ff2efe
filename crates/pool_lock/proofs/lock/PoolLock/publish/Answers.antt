use Rattle.std.proofs.Common.{ℕ, sym, ap, ◌∙◌, ◌++◌, ◌∷◌, [], length}
use Rattle.pool_lock.specs.Views.{known, seen_in}
use Rattle.pool_lock.proofs.Sections.{entered, may-append, may-return-same, told-published}
use Rattle.pool_lock.proofs.lock.PoolLock.publish.Goals as goal

pub leave_published-requires-clause-served : goal.leave_published-requires-clause-served
leave_published-requires-clause-served g c =
    let h = c.requires.ours in
    let r = g.T.Growing.root c.enter-value.result in
    let all = g.T.Growing.list c.enter-value.result in
    let e = entered c.args.pass.now.seat.me c.enter-value.new.seat.me h.1 r all h.3 c.enter-value.ensures.served in
    may-append r (g.T.Growing.root c.append.new.self) all (g.T.Growing.list c.append.new.self) c.args.item c.args.pass.now.number h.1 c.enter-value.new.seat.me e h.2 c.append.ensures.root c.in-Ok.ensures.added

pub leave-requires-clause-served : goal.leave-requires-clause-served
leave-requires-clause-served g c =
    let h = c.requires.ours in
    let r = g.T.Growing.root c.enter-value.result in
    let all = g.T.Growing.list c.enter-value.result in
    let e = entered c.args.pass.now.seat.me c.enter-value.new.seat.me h.1 r all h.3 c.enter-value.ensures.served in
    may-return-same r (g.T.Growing.root c.append.new.self) all (g.T.Growing.list c.append.new.self) h.1 c.enter-value.new.seat.me e c.append.ensures.root c.in-Err.ensures.unchanged

pub returns-in-Ok-clause-ours : goal.returns-in-Ok-clause-ours
returns-in-Ok-clause-ours g c =
    let h = c.requires.ours in
    let p = h.1 in
    let all = g.T.Growing.list c.enter-value.result in
    let e = entered c.args.pass.now.seat.me c.enter-value.new.seat.me p (g.T.Growing.root c.enter-value.result) all h.3 c.enter-value.ensures.served in
    let q = c.leave_published.ensures.published e.ticket p all c.args.item e.served (c.in-Ok.ensures.added ∙ ap (λ (k : ℕ). all ++ (k, c.args.item) ∷ []) (sym h.2)) in
    (c.leave_published.ensures.own.0 ∙ c.enter-value.ensures.own.0 ∙ h.0, known p.number p.opened p.seen (p.published ++ (length all, c.args.item) ∷ []), h.2, q.1)

pub returns-in-Ok-clause-told : goal.returns-in-Ok-clause-told
returns-in-Ok-clause-told g c =
    let h = c.requires.ours in
    let p = h.1 in
    let all = g.T.Growing.list c.enter-value.result in
    let e = entered c.args.pass.now.seat.me c.enter-value.new.seat.me p (g.T.Growing.root c.enter-value.result) all h.3 c.enter-value.ensures.served in
    let q = c.leave_published.ensures.published e.ticket p all c.args.item e.served (c.in-Ok.ensures.added ∙ ap (λ (k : ℕ). all ++ (k, c.args.item) ∷ []) (sym h.2)) in
    told-published c.args.pass.now.seat.me c.leave_published.new.seat.me p c.leave_published.result (length all) c.args.item h.3 q.0 q.1

pub invariant_of-pass : goal.invariant_of-pass
invariant_of-pass g c =
    let h = c.requires.ours in
    let p = h.1 in
    let all = g.T.Growing.list c.enter-value.result in
    let e = entered c.args.pass.now.seat.me c.enter-value.new.seat.me p (g.T.Growing.root c.enter-value.result) all h.3 c.enter-value.ensures.served in
    let q = c.leave_published.ensures.published e.ticket p all c.args.item e.served (c.in-Ok.ensures.added ∙ ap (λ (k : ℕ). all ++ (k, c.args.item) ∷ []) (sym h.2)) in
    record { counted = c.args.pass.now.counted ∙ ap (λ m. length (seen_in m.0)) h.3 ∙ sym (ap (λ m. length (seen_in m.0)) q.1) }
