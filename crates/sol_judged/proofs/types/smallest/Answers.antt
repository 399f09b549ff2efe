use Rattle.std.proofs.Common.{◌+◌, ◌-◌, ◌∙◌, sym, arith, rules}
use Rattle.sol_judged.proofs.Sizes.{smallest_of-next}
use Rattle.sol_judged.proofs.types.smallest.Goals as goal

pub loop-n-preserved : goal.loop-n-preserved
loop-n-preserved c = sym (smallest_of-next _ (13 - c.loop-n.n) (13 - (c.loop-n.n + 1)) c.loop-n.n _ (omega arith) (search rules)) ∙ c.loop-n.invariant
