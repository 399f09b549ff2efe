use Rattle.pool_state.proofs.Proving.{unproved-relative}
use Rattle.pool_state.proofs.laws.proof_law.Goals as goal

pub returns : goal.returns
returns c = unproved-relative
