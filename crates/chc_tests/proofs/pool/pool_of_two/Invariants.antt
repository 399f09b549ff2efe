use Rattle.std.proofs.Common.{◌≡◌}
use Rattle.chc_tests.proofs.pool.pool_of_two.Given as goal

abbrev pub invariant-loop-by : goal.invariant-loop-by
invariant-loop-by l = l.pool.system ≡ l.fn.s.value
