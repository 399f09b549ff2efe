use Rattle.std.proofs.Common.{◌∙◌, ap, arith}
use Rattle.pool_state.specs.Items.{items_in}
use Rattle.pool_state.proofs.Following.{fits-pool, joined-item, items-length}
use Rattle.pool_state.proofs.shared.PoolGrowing.append.Goals as goal

pub append-requires : goal.append-requires
append-requires c = fits-pool c.args.self.now c.args.item c.kept.ensures.pool c.requires

pub returns-in-Ok-clause-added : goal.returns-in-Ok-clause-added
returns-in-Ok-clause-added c = ap items_in c.in-Ok.ensures ∙ joined-item c.args.self.now c.args.by c.args.item c.kept.ensures.pool (fits-pool c.args.self.now c.args.item c.kept.ensures.pool c.requires)

pub returns-in-Ok-clause-short : goal.returns-in-Ok-clause-short
returns-in-Ok-clause-short c = omega (arith, items-length c.append.new.self.system c.append.new.self.lemmas 0 c.append.new.self.batches, c.kept-in-Ok.ensures.few)
