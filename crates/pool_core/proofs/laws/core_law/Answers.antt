use Rattle.pool_core.proofs.Keeping.{begins}
use Rattle.pool_core.proofs.laws.core_law.Goals as goal

pub returns-clause-begins : goal.returns-clause-begins
returns-clause-begins c = begins
