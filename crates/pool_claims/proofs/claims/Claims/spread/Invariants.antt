use Rattle.std.proofs.Common.{◌≡◌, ◌≤◌, ◌+◌, ◌-◌, [], length, vec_capacity}
use Rattle.pool_claims.specs.Views.{view_of, fresh_passes}
use Rattle.pool_claims.specs.Calls.{AreFresh}
use Rattle.pool_claims.proofs.claims.Claims.spread.Given as goal

abbrev pub invariant-loop-made : goal.invariant-loop-made
invariant-loop-made l = record {
  own : l.first.table_id ≡ l.self.table.shared.table_id;
  first : l.first.me ≡ (view_of (fresh_passes l.self.numbers (l.count + 1 - l._made)), []);
  passes : AreFresh l.self.table.shared.table_id l.self.numbers l.all.items;
  made : length l.all.items + 1 ≡ l._made;
  room : l.count ≤ vec_capacity l.all;
}
