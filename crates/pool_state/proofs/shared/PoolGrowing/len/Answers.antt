use Rattle.std.proofs.Common.{◌∙◌, sym, ap, length, arith}
use Rattle.pool_state.proofs.Following.{items-length}
use Rattle.pool_state.proofs.shared.PoolGrowing.len.Goals as goal

pub returns-clause-is : goal.returns-clause-is
returns-clause-is c = ap length c.batches.ensures.is ∙ sym (items-length c.args.self.now.system c.args.self.now.lemmas 0 c.args.self.now.batches)

pub returns-clause-short : goal.returns-clause-short
returns-clause-short c = omega (arith, items-length c.args.self.now.system c.args.self.now.lemmas 0 c.args.self.now.batches, c.kept.ensures.few)
