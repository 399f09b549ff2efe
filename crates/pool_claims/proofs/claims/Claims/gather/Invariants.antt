use Rattle.std.proofs.Common.{◌≡◌, ◌++◌, [], length}
use Rattle.pool_claims.specs.Calls.{ArePassesOf}
use Rattle.pool_claims.specs.Gathered.{passes_in}
use Rattle.pool_claims.proofs.claims.Claims.gather.Given as goal

abbrev pub invariant-loop-other : goal.invariant-loop-other
invariant-loop-other l = record {
  own : l.first.table_id ≡ l.fn.first.table_id;
  hands : l.first.me.1 ≡ [];
  others : ArePassesOf l.self.table.shared.table_id l.self.numbers l.others.items;
  all : passes_in l.others.items ++ l.first.me.0.passes ≡ passes_in l.fn.others.items ++ l.fn.first.me.0.passes;
}

abbrev pub decreases-loop-other : goal.decreases-loop-other
decreases-loop-other l = length l.others.items
