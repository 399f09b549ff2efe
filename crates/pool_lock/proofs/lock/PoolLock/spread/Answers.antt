use Rattle.std.proofs.Common.{◌≡◌, ◌+◌, ◌-◌, ◌<◌, ◌≤◌, ◌∙◌, [], ap, refl, rules, arith, length}
use Rattle.std.proofs.lemmas.List.{length-append}
use Rattle.pool_lock.specs.declared.view.Phase.TheVariants.{Idle}
use Rattle.pool_lock.specs.Views.{view_of, fresh, fresh_from, opened_in}
use Rattle.pool_lock.proofs.Passes.{seen-none, fresh-two, split-first, split-rest, last-fresh, spread-one}
use Rattle.pool_lock.proofs.lock.PoolLock.spread.Goals as goal

pub split-seat-requires-clause-more : goal.split-seat-requires-clause-more
split-seat-requires-clause-more g c =
    let o = opened_in c.args.first.me.0 in
    let k = c.loop-number.number - 1 in
    let n = c.args.count + 1 - c.loop-number.number in
    let less : c.loop-number.number < c.args.count = search rules in
    let made = c.loop-number.invariant.made in
    let two : 2 ≤ c.args.count + 1 - c.loop-number.number = omega arith in
    (fresh o k, fresh o (k + 1), fresh_from o (k + 1 + 1) (n - 2), c.loop-number.invariant.first ∙ ap (λ ps. (view_of ps Idle, [])) (fresh-two o k n two))

pub invariant_of-push_reserved : goal.invariant_of-push_reserved
invariant_of-push_reserved g c =
    let o = opened_in c.args.first.me.0 in
    let less : c.loop-number.number < c.args.count = search rules in
    let some : 1 ≤ c.args.count + 1 - c.loop-number.number = omega arith in
    record { counted = seen-none o (c.loop-number.number - 1) c.split-seat.result.me (split-first o (c.loop-number.number - 1) (c.args.count + 1 - c.loop-number.number) c.loop-number.first.me c.split-seat.result.me some c.loop-number.invariant.first c.split-seat.ensures.first) }

pub loop-number-preserved : goal.loop-number-preserved
loop-number-preserved g c =
    let id = c.args.self.now.table.shared.table_id in
    let o = opened_in c.args.first.me.0 in
    let inv = c.loop-number.invariant in
    let number = c.loop-number.number in
    let count = c.args.count in
    let less : number < count = search rules in
    let made = inv.made in
    let k = number - 1 in
    let n = count + 1 - number in
    let some : 1 ≤ count + 1 - number = omega arith in
    let next : number - 1 + 1 ≡ number + 1 - 1 = omega arith in
    let fewer : count + 1 - number - 1 ≡ count + 1 - (number + 1) = omega arith in
    let place : length c.loop-number.all.items ≡ number - 1 = omega arith in
    let its = split-first o k n c.loop-number.first.me c.split-seat.result.me some inv.first c.split-seat.ensures.first in
    let items = ap length c.push_reserved.ensures.items ∙ length-append c.loop-number.all.items _ in
    record {
      own = c.split-seat.ensures.own.0 ∙ inv.own;
      first = split-rest o k n (number + 1 - 1) (count + 1 - (number + 1)) c.loop-number.first.me c.split-seat.new.seat.me some next fewer inv.first c.split-seat.ensures.rest;
      passes = spread-one id o c.loop-number.all.items c.push_reserved.new.self.items _ k inv.passes c.push_reserved.ensures.items place refl (c.split-seat.ensures.own.2 ∙ inv.own) its;
      made = omega arith;
      room = search rules;
    }

pub returns-clause-fresh : goal.returns-clause-fresh
returns-clause-fresh g c =
    let o = opened_in c.args.first.me.0 in
    let inv = c.loop-number.invariant in
    let number = c.loop-number.number in
    let count = c.args.count in
    let same : number ≡ count = search rules in
    let made = inv.made in
    let one : count + 1 - number ≡ 1 = omega arith in
    let last : number - 1 ≡ count - 1 = omega arith in
    let place : length c.loop-number.all.items ≡ count - 1 = omega arith in
    let its = last-fresh o (number - 1) (count + 1 - number) (count - 1) c.loop-number.first.me one last inv.first in
    spread-one c.args.self.now.table.shared.table_id o c.loop-number.all.items c.push_reserved-2.new.self.items _ (count - 1) inv.passes c.push_reserved-2.ensures.items place refl inv.own its
