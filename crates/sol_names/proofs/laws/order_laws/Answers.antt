use Rattle.sol_names.proofs.OneAnswer.{least-below, least-none}
use Rattle.sol_names.proofs.laws.order_laws.Goals as goal

pub returns-clause-lesser : goal.returns-clause-lesser
returns-clause-lesser c = least-below

pub returns-clause-none : goal.returns-clause-none
returns-clause-none c = least-none
