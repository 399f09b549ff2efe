use Rattle.std.proofs.Common.{◌≡◌, ◌++◌, List, length}
use Rattle.std.specs.Vec.Iter.{into_iter_items}
use Rattle.pool_core.specs.declared.events.Event.{Event}
use Rattle.pool_core.specs.Runs.{Runs, AreInRange}
use Rattle.pool_core.proofs.run.run_core.Given as goal

abbrev pub invariant-loop-e : goal.invariant-loop-e
invariant-loop-e l = record {
  ran : (done : List Event) × (l.fn.events.items ≡ done ++ into_iter_items l.left) × Runs l.fn.core done l.told.items l.core;
  range : AreInRange l.core (into_iter_items l.left);
}

abbrev pub decreases-loop-e : goal.decreases-loop-e
decreases-loop-e l = length (into_iter_items l.left)
