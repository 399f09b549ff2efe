use Rattle.std.proofs.Common.{◌≡◌}
use Rattle.pool_core.specs.Marks.{starts}
use Rattle.pool_core.proofs.marks.starts.Given as goal

abbrev pub invariant-loop-worker : goal.invariant-loop-worker
invariant-loop-worker l = l.marks.items ≡ starts l._worker
