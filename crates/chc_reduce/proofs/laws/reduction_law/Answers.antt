use Rattle.chc_reduce.proofs.Truthful.{rule-shown, query-shown}
use Rattle.chc_reduce.proofs.laws.reduction_law.Goals as goal

pub returns-clause-refuted_rules : goal.returns-clause-refuted_rules
returns-clause-refuted_rules c = rule-shown

pub returns-clause-refuted_queries : goal.returns-clause-refuted_queries
returns-clause-refuted_queries c = query-shown
