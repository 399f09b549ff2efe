use Rattle.std.proofs.Common.{ap, length}
use Rattle.pool_core.proofs.Joining.{seen-fits, appended-marks, placed, kept-back}
use Rattle.pool_core.proofs.state.PoolCore.publish.Goals as goal
use Rattle.pool_core.proofs.state.PoolCore.publish.Goals.{in-Ok, in-Err}

pub append-requires : goal.append-requires
append-requires c = seen-fits c.self.inside.pool c.self.inside.seen.items c.args.self.now c.args.worker c.args.batch c.self.view_is c.self.invariant c.if-not-fits.ensures

pub invariant_of-self : goal.invariant_of-self
invariant_of-self c = appended-marks c.self.inside.pool c.append.new.self c.args.worker c.args.batch c.self.inside.seen.items c.append.result c.append.ensures c.self.invariant

pub returns : goal.returns
returns c =
    elim c.match-append.branch [
      | in-Ok w ↦ rw w.result-is (placed c.self.inside.pool c.append.new.self c.self.inside.seen.items c.args.self.now c.args.worker c.args.batch _ c.self.view_is c.self.invariant c.if-not-fits.ensures w.in-Ok.ensures (ap length c.batches.ensures.is))
      | in-Err w ↦ rw w.result-is (kept-back c.self.inside.pool c.append.new.self c.self.inside.seen.items c.args.self.now c.self.view_is w.in-Err.ensures.0, w.in-Err.ensures.1)
    ]
