use Rattle.std.proofs.Common.{◌≡◌, ◌++◌, ◌∷◌, List, [], length}
use Rattle.pool_lock.specs.declared.view.Known.{Known}
use Rattle.pool_lock.specs.declared.view.Phase.TheVariants.{Idle}
use Rattle.pool_lock.specs.Views.{view_of}
use Rattle.pool_lock.specs.Calls.{ArePassesOf}
use Rattle.pool_lock.specs.Gathered.{passes_in}
use Rattle.pool_lock.proofs.lock.PoolLock.gather.Given as goal

abbrev pub invariant-loop-other : goal.invariant-loop-other
invariant-loop-other g l = record {
  own : l.first.table_id ≡ l.fn.first.table_id;
  idle : (p : Known g.row.T-Item.Denot g.row.T-Root.Denot) × (ps : List (Known g.row.T-Item.Denot g.row.T-Root.Denot)) × (l.first.me ≡ (view_of (p ∷ ps) Idle, []));
  others : ArePassesOf l.self.table.shared.table_id l.others.items;
  all : passes_in l.others.items ++ l.first.me.0.passes ≡ passes_in l.fn.others.items ++ l.fn.first.me.0.passes;
}

abbrev pub decreases-loop-other : goal.decreases-loop-other
decreases-loop-other g l = length l.others.items
