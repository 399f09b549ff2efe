use Rattle.chc_simplex.proofs.Summing.{multipliers-summed}
use Rattle.chc_simplex.proofs.laws.sums_law.Goals as goal

pub returns : goal.returns
returns c = multipliers-summed
