use Rattle.sol_driver.proofs.Exactly.{judged-exact}
use Rattle.sol_driver.proofs.laws.status_laws.Goals as goal

pub returns-clause-judged : goal.returns-clause-judged
returns-clause-judged c = judged-exact
