use Rattle.chc_templates.proofs.Ordering.{ordered-in_order, ordered-members}
use Rattle.chc_templates.proofs.constant_laws.constant_law.Goals as goal

pub returns-clause-order : goal.returns-clause-order
returns-clause-order c = ordered-in_order

pub returns-clause-members : goal.returns-clause-members
returns-clause-members c = ordered-members
