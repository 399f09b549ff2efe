use Rattle.std.proofs.Common.{rules, ◌≡◌}
use Rattle.pool_core.proofs.Joining.{alike-fits, unalike-fits}
use Rattle.pool_core.proofs.state.PoolCore.fits.Goals as goal

pub returns-then-is_alike : goal.returns-then-is_alike
returns-then-is_alike c =
    let same : c.self.inside.pool.system ≡ c.args.batch.now.system = search rules in
    alike-fits c.self.inside.pool c.self.inside.seen.items c.args.self.now c.args.worker c.args.batch.now c.seen.result.now c.base.result.now c.starts_with.result c.self.view_is c.seen.ensures same c.base.ensures.is c.starts_with.ensures

pub returns-else-is_alike : goal.returns-else-is_alike
returns-else-is_alike c =
    unalike-fits c.self.inside.pool c.self.inside.seen.items c.args.self.now c.args.worker c.args.batch.now c.is_alike.result c.self.view_is c.self.invariant c.requires (search rules) (search rules)
