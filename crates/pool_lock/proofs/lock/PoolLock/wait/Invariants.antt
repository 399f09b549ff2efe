use Rattle.std.proofs.Common.{◌≡◌}
use Rattle.pool_lock.proofs.lock.PoolLock.wait.Given as goal

abbrev pub invariant-loop-turn : goal.invariant-loop-turn
invariant-loop-turn g l = record {
  table : l.seat.table_id ≡ l.fn.seat.table_id;
  id : l.seat.id ≡ l.fn.seat.id;
  me : l.seat.me ≡ l.fn.seat.me;
}
