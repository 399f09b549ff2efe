use Rattle.pool_core.proofs.Joining.{mark-within, mark-seen}
use Rattle.pool_core.proofs.state.PoolCore.seen.Goals as goal

pub slice_bounds-result-end : goal.slice_bounds-result-end
slice_bounds-result-end c = rw c.lemmas.ensures.is (mark-within c.self.inside.pool c.self.inside.seen.items c.args.self.now c.args.worker c.index.result.now c.self.view_is c.self.invariant c.requires c.index.ensures)

pub returns : goal.returns
returns c = rw c.lemmas.ensures.is (mark-seen c.self.inside.pool c.self.inside.seen.items c.args.self.now c.args.worker c.index.result.now c.self.view_is c.self.invariant c.requires c.index.ensures)
