use Rattle.chc_form.proofs.Orders.{rule-ascends, query-ascends}
use Rattle.chc_form.proofs.lemma_laws.order_law.Goals as goal

pub returns-clause-rules : goal.returns-clause-rules
returns-clause-rules c = rule-ascends

pub returns-clause-queries : goal.returns-clause-queries
returns-clause-queries c = query-ascends
