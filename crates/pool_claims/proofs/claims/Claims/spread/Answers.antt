use Rattle.std.proofs.Common.{◌≡◌, ◌+◌, ◌-◌, ◌<◌, ◌≤◌, ◌∙◌, [], ◌∷◌, ap, refl, rules, arith, length, false}
use Rattle.std.proofs.lemmas.List.{length-append}
use Rattle.pool_claims.proofs.Passes.{split-first, split-rest, last-fresh, spread-one}
use Rattle.pool_claims.proofs.claims.Claims.spread.Goals as goal

pub loop-made-preserved : goal.loop-made-preserved
loop-made-preserved c =
    let id = c.args.self.now.table.shared.table_id in
    let n = c.args.self.now.numbers in
    let inv = c.loop-made.invariant in
    let at = c.loop-made._made in
    let count = c.args.count in
    let less : at < count = search rules in
    let k = count + 1 - at in
    let some : 1 ≤ count + 1 - at = omega arith in
    let fewer : count + 1 - at - 1 ≡ count + 1 - (at + 1) = omega arith in
    let made = inv.made in
    let longer = length-append c.loop-made.all.items (record { ended = false; seat = c.split-seat.result } ∷ []) in
    let items = ap length c.push_reserved.ensures.items in
    record {
      own = c.split-seat.ensures.own.0 ∙ inv.own;
      first = split-rest n k (count + 1 - (at + 1)) c.loop-made.first.me c.split-seat.new.seat.me some fewer inv.first c.split-seat.ensures.rest;
      passes = spread-one id n c.loop-made.all.items c.push_reserved.new.self.items (record { ended = false; seat = c.split-seat.result }) inv.passes c.push_reserved.ensures.items refl (c.split-seat.ensures.own.2 ∙ inv.own) (split-first n k c.loop-made.first.me c.split-seat.result.me some inv.first c.split-seat.ensures.first);
      made = omega arith;
      room = search rules;
    }

pub returns-clause-fresh : goal.returns-clause-fresh
returns-clause-fresh c =
    let n = c.args.self.now.numbers in
    let inv = c.loop-made.invariant in
    let count = c.args.count in
    let same : c.loop-made._made ≡ count = search rules in
    let one : count + 1 - c.loop-made._made ≡ 1 = omega arith in
    spread-one c.args.self.now.table.shared.table_id n c.loop-made.all.items c.push_reserved-2.new.self.items (record { ended = false; seat = c.loop-made.first }) inv.passes c.push_reserved-2.ensures.items refl inv.own (last-fresh n (count + 1 - c.loop-made._made) c.loop-made.first.me one inv.first)
