use Rattle.std.proofs.Common.{◌∙◌, [], ◌∷◌, subst, ap}
use Rattle.pool_claims.specs.Calls.{ArePassesOf}
use Rattle.pool_claims.proofs.Passes.{passes-front, all-kept}
use Rattle.pool_claims.proofs.claims.Claims.gather.Goals as goal

pub loop-other-preserved : goal.loop-other-preserved
loop-other-preserved c =
    let id = c.args.self.now.table.shared.table_id in
    let n = c.args.self.now.numbers in
    let inv = c.loop-other.invariant in
    let other = c.in-Some.other in
    let rest = c.pop.new.self.items in
    record {
      own = c.join.ensures.own.0 ∙ inv.own;
      hands = ap (λ m. m.1) c.join.ensures.both;
      others = passes-front id n rest (other ∷ []) (subst (ArePassesOf id n) c.in-Some.ensures.items inv.others);
      all = all-kept rest c.loop-other.others.items other c.loop-other.first.me c.join.new.seat.me c.in-Some.ensures.items c.join.ensures.both ∙ inv.all;
    }
