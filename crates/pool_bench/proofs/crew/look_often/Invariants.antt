use Rattle.std.proofs.Common.{◌≡◌, length}
use Rattle.pool_lock.specs.Calls.{IsOurs, HasCopies}
use Rattle.pool_bench.proofs.crew.look_often.Given as goal

abbrev pub invariant-loop-call : goal.invariant-loop-call
invariant-loop-call g l = record {
  ours : IsOurs l.lock.table.shared.table_id l.pass;
  copies : HasCopies (λ r xs n. n ≡ length xs) l.pass.seat.me.0 l.have;
}
