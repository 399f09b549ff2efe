use Rattle.pool_lock.specs.Calls.{IsOurs}
use Rattle.pool_bench.proofs.crew.publish_often.Given as goal

abbrev pub invariant-loop-call : goal.invariant-loop-call
invariant-loop-call g l = IsOurs l.lock.table.shared.table_id l.pass
