use Rattle.std.proofs.Common.{◌≡◌, ◌∙◌, sym, ap, subst, [], ◌∷◌, length, Some}
use mathlib.Core.Option.{some-injective}
use Rattle.std.specs.Slots.{slots_items}
use Rattle.pool_lock.specs.Calls.{ArePassesOf}
use Rattle.pool_lock.proofs.Closing.{closed-with}
use Rattle.pool_lock.proofs.Passes.{passes-front, passes-back, known-all, count-in, Ends, ends}
use Rattle.pool_lock.proofs.lock.PoolLock.close.Goals as goal

pub gather-requires-clause-own : goal.gather-requires-clause-own
gather-requires-clause-own g c = (passes-back c.args.self.table.shared.table_id c.pop.new.self.items (c.in-Some.field-0 ∷ []) (subst (ArePassesOf c.args.self.table.shared.table_id) c.in-Some.ensures.items c.requires.ours)).0.0

pub gather-requires-clause-idle : goal.gather-requires-clause-idle
gather-requires-clause-idle g c =
    let q = (passes-back c.args.self.table.shared.table_id c.pop.new.self.items (c.in-Some.field-0 ∷ []) (subst (ArePassesOf c.args.self.table.shared.table_id) c.in-Some.ensures.items c.requires.ours)).0 in
    (q.1, q.3)

pub gather-requires-clause-others : goal.gather-requires-clause-others
gather-requires-clause-others g c = passes-front c.args.self.table.shared.table_id c.pop.new.self.items (c.in-Some.field-0 ∷ []) (subst (ArePassesOf c.args.self.table.shared.table_id) c.in-Some.ensures.items c.requires.ours)

pub close_with-closed-requires : goal.close_with-closed-requires
close_with-closed-requires g c =
    let q = (passes-back c.args.self.table.shared.table_id c.pop.new.self.items (c.in-Some.field-0 ∷ []) (subst (ArePassesOf c.args.self.table.shared.table_id) c.in-Some.ensures.items c.requires.ours)).0 in
    c.gather.ensures.own ∙ q.0

pub unreachable-requires-in-None : goal.unreachable-requires-in-None
unreachable-requires-in-None g c =
    let r = c.close_with-closed.result in
    let i = c.gather.ensures.idle in
    let all = known-all c.args.passes.items c.pop.new.self.items c.in-Some.field-0 c.gather.new.first.me i.0 i.1 c.in-Some.ensures.items i.2 c.gather.ensures.all in
    let whole = ap length all ∙ count-in c.args.self.table.shared.table_id c.args.passes.items c.requires.ours ∙ c.requires.all in
    let k = closed-with g.T.Growing.list g.T.Growing.root c.args.self.table.shared.key c.gather.new.first.id c.gather.new.first.me i.0 i.1 (slots_items r.words) (slots_items r.slots) i.2 c.close_with-closed.ensures.values.2 whole in
    let e = some-injective (Some k.0) c.take-slot.result (sym k.1 ∙ c.take-slot.ensures.value) ∙ c.in-None.is in
    cc e

pub returns : goal.returns
returns g c =
    let r = c.close_with-closed.result in
    let i = c.gather.ensures.idle in
    let id = c.args.self.table.shared.table_id in
    let all = known-all c.args.passes.items c.pop.new.self.items c.in-Some.field-0 c.gather.new.first.me i.0 i.1 c.in-Some.ensures.items i.2 c.gather.ensures.all in
    let whole = ap length all ∙ count-in id c.args.passes.items c.requires.ours ∙ c.requires.all in
    let k = closed-with g.T.Growing.list g.T.Growing.root c.args.self.table.shared.key c.gather.new.first.id c.gather.new.first.me i.0 i.1 (slots_items r.words) (slots_items r.slots) i.2 c.close_with-closed.ensures.values.2 whole in
    let e = some-injective (Some k.0) c.take-slot.result (sym k.1 ∙ c.take-slot.ensures.value) ∙ c.in-Some-slot.is in
    let same : k.0 ≡ c.in-Some-slot.value = cc e in
    let told = ends g.T.Growing.list g.T.Growing.root id c.args.self.table.shared.key k.0 k.2.0 (i.0 ∷ i.1) c.args.passes.items k.2.1 all c.requires.all c.requires.ours in
    let there = subst (λ (x : g.row.T.Denot). Ends g.T.Growing.list g.T.Growing.root x c.args.passes.items) same told in
    record { numbers = there.numbers; stand = there.stand }
