use Rattle.std.proofs.Common.{◌<◌, ◌≤◌, ◌∙◌, ap, subst, [], ◌∷◌, rules, arith}
use Rattle.std.specs.Slots.{slots_items}
use Rattle.pool_lock.specs.Weights.{weigh}
use Rattle.pool_claims.specs.Calls.{ArePassesOf}
use Rattle.pool_claims.proofs.Keeps.{closed-with}
use Rattle.pool_claims.proofs.Passes.{passes-front, passes-back, known-all, count-in, told}
use Rattle.pool_claims.proofs.claims.Claims.close.Goals as goal

pub gather-requires-clause-own : goal.gather-requires-clause-own
gather-requires-clause-own c = (passes-back c.args.self.table.shared.table_id c.args.self.numbers c.pop.new.self.items (c.in-Some.field-0 ∷ []) (subst (ArePassesOf c.args.self.table.shared.table_id c.args.self.numbers) c.in-Some.ensures.items c.requires.ours)).0.0

pub gather-requires-clause-hands : goal.gather-requires-clause-hands
gather-requires-clause-hands c = ap (λ m. m.1) (passes-back c.args.self.table.shared.table_id c.args.self.numbers c.pop.new.self.items (c.in-Some.field-0 ∷ []) (subst (ArePassesOf c.args.self.table.shared.table_id c.args.self.numbers) c.in-Some.ensures.items c.requires.ours)).0.2

pub gather-requires-clause-others : goal.gather-requires-clause-others
gather-requires-clause-others c = passes-front c.args.self.table.shared.table_id c.args.self.numbers c.pop.new.self.items (c.in-Some.field-0 ∷ []) (subst (ArePassesOf c.args.self.table.shared.table_id c.args.self.numbers) c.in-Some.ensures.items c.requires.ours)

pub close_with-closed-requires : goal.close_with-closed-requires
close_with-closed-requires c = c.gather.ensures.own ∙ (passes-back c.args.self.table.shared.table_id c.args.self.numbers c.pop.new.self.items (c.in-Some.field-0 ∷ []) (subst (ArePassesOf c.args.self.table.shared.table_id c.args.self.numbers) c.in-Some.ensures.items c.requires.ours)).0.0

pub free-requires : goal.free-requires
free-requires c k less =
    let none = c.close_with-closed.ensures.counts.1 ∙ c.args.self.none in
    absurd (omega arith)

pub returns-then-word-numbers-clause-drawn : goal.returns-then-word-numbers-clause-drawn
returns-then-word-numbers-clause-drawn c =
    let id = c.args.self.table.shared.table_id in
    let key = c.args.self.table.shared.key in
    let m = c.gather.new.first.me in
    let r = c.close_with-closed.result in
    let all = known-all c.args.passes.items c.pop.new.self.items c.in-Some.field-0 m c.in-Some.ensures.items c.gather.ensures.all in
    let whole = ap (weigh (λ _. 1)) all ∙ count-in id c.args.self.numbers c.args.passes.items c.requires.ours ∙ c.requires.all in
    let k = closed-with key c.gather.new.first.id m (slots_items r.words) (slots_items r.slots) c.word-word.result c.close_with-closed.ensures.values.2 c.word-word.ensures whole in
    let less : c.word-word.result < c.args.self.numbers = search rules in
    (told key id c.args.self.numbers c.word-word.result m.0.passes c.args.passes.items c.args.self.same k all c.requires.ours).low less

pub returns-then-word-numbers-clause-ended : goal.returns-then-word-numbers-clause-ended
returns-then-word-numbers-clause-ended c some =
    let id = c.args.self.table.shared.table_id in
    let key = c.args.self.table.shared.key in
    let m = c.gather.new.first.me in
    let r = c.close_with-closed.result in
    let all = known-all c.args.passes.items c.pop.new.self.items c.in-Some.field-0 m c.in-Some.ensures.items c.gather.ensures.all in
    let whole = ap (weigh (λ _. 1)) all ∙ count-in id c.args.self.numbers c.args.passes.items c.requires.ours ∙ c.requires.all in
    let k = closed-with key c.gather.new.first.id m (slots_items r.words) (slots_items r.slots) c.word-word.result c.close_with-closed.ensures.values.2 c.word-word.ensures whole in
    let less : c.word-word.result < c.args.self.numbers = search rules in
    let past = (told key id c.args.self.numbers c.word-word.result m.0.passes c.args.passes.items c.args.self.same k all c.requires.ours).ended some in
    absurd (omega arith)

pub returns-else-word-numbers-clause-drawn : goal.returns-else-word-numbers-clause-drawn
returns-else-word-numbers-clause-drawn c =
    let id = c.args.self.table.shared.table_id in
    let key = c.args.self.table.shared.key in
    let m = c.gather.new.first.me in
    let r = c.close_with-closed.result in
    let all = known-all c.args.passes.items c.pop.new.self.items c.in-Some.field-0 m c.in-Some.ensures.items c.gather.ensures.all in
    let whole = ap (weigh (λ _. 1)) all ∙ count-in id c.args.self.numbers c.args.passes.items c.requires.ours ∙ c.requires.all in
    let k = closed-with key c.gather.new.first.id m (slots_items r.words) (slots_items r.slots) c.word-word.result c.close_with-closed.ensures.values.2 c.word-word.ensures whole in
    let past : c.args.self.numbers ≤ c.word-word.result = search rules in
    (told key id c.args.self.numbers c.word-word.result m.0.passes c.args.passes.items c.args.self.same k all c.requires.ours).high past
