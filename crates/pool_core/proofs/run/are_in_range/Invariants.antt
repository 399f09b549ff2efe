use Rattle.std.proofs.Common.{◌↔◌, length}
use Rattle.pool_core.specs.Runs.{AreInRange}
use Rattle.pool_core.proofs.run.are_in_range.Given as goal

abbrev pub invariant-loop-rest : goal.invariant-loop-rest
invariant-loop-rest l = AreInRange l.core l.events ↔ AreInRange l.core l.rest

abbrev pub decreases-loop-rest : goal.decreases-loop-rest
decreases-loop-rest l = length l.rest
