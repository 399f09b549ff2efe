use Rattle.std.specs.Vec.Iter.{into_iter_items}
use Rattle.pool_core.proofs.Running.{turn-ran, turn-range}
use Rattle.pool_core.proofs.run.run_core.Goals as goal

pub loop-e-preserved : goal.loop-e-preserved
loop-e-preserved c = record {
  ran = turn-ran c.args.core.now c.loop-e.core c.step_on.new.core c.args.events.items (into_iter_items c.loop-e.left) (into_iter_items c.next.new.self) c.in-Some.e c.loop-e.told.items c.step_on.new.told.items c.loop-e.invariant.ran c.in-Some.ensures.items c.in-Ok.ensures;
  range = turn-range c.loop-e.core c.step_on.new.core (into_iter_items c.loop-e.left) (into_iter_items c.next.new.self) c.in-Some.e c.loop-e.told.items c.step_on.new.told.items c.loop-e.invariant.range c.in-Some.ensures.items c.in-Ok.ensures;
}
