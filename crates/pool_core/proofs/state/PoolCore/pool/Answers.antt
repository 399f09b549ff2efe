use Rattle.std.proofs.Common.{subst}
use Rattle.pool_core.specs.Core.{IsCore}
use Rattle.pool_core.proofs.Marking.{core-marked}
use Rattle.pool_core.proofs.state.PoolCore.pool.Goals as goal

pub returns-clause-keeps : goal.returns-clause-keeps
returns-clause-keeps c = subst IsCore c.self.view_is (core-marked c.self.inside.pool c.self.inside.seen.items c.batches-count.ensures.keeps c.self.invariant)
