use Rattle.std.proofs.Common.{◌∙◌, [], ◌∷◌, subst}
use Rattle.pool_lock.specs.Calls.{ArePassesOf}
use Rattle.pool_lock.proofs.Passes.{passes-front, passes-back, joined-is, all-kept}
use Rattle.pool_lock.proofs.lock.PoolLock.gather.Goals as goal

pub loop-other-preserved : goal.loop-other-preserved
loop-other-preserved g c =
    let id = c.args.self.now.table.shared.table_id in
    let inv = c.loop-other.invariant in
    let other = c.in-Some.other in
    let rest = c.pop.new.self.items in
    let all = subst (ArePassesOf id) c.in-Some.ensures.items inv.others in
    let q = (passes-back id rest (other ∷ []) all).0 in
    record {
      own = c.join.ensures.own.0 ∙ inv.own;
      idle = (q.1, inv.idle.0 ∷ inv.idle.1, joined-is c.loop-other.first.me other.seat.me c.join.new.seat.me inv.idle.0 q.1 inv.idle.1 inv.idle.2 q.3 c.join.ensures.both);
      others = passes-front id rest (other ∷ []) all;
      all = all-kept rest c.loop-other.others.items other c.loop-other.first.me c.join.new.seat.me c.in-Some.ensures.items c.join.ensures.both ∙ inv.all;
    }
