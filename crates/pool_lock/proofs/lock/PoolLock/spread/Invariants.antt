use Rattle.std.proofs.Common.{◌≡◌, ◌≤◌, ◌+◌, ◌-◌, [], length, vec_capacity}
use Rattle.pool_lock.specs.declared.view.Phase.TheVariants.{Idle}
use Rattle.pool_lock.specs.Views.{view_of, fresh_from, opened_in}
use Rattle.pool_lock.specs.Calls.{AreFresh}
use Rattle.pool_lock.proofs.lock.PoolLock.spread.Given as goal

abbrev pub invariant-loop-number : goal.invariant-loop-number
invariant-loop-number g l = record {
  own : l.first.table_id ≡ l.self.table.shared.table_id;
  first : l.first.me ≡ (view_of (fresh_from (opened_in l.fn.first.me.0) (l.number - 1) (l.count + 1 - l.number)) Idle, []);
  passes : AreFresh l.self.table.shared.table_id (opened_in l.fn.first.me.0) 0 l.all.items;
  made : length l.all.items + 1 ≡ l.number;
  room : l.count ≤ vec_capacity l.all;
}
