use Rattle.chc_templates.proofs.Laws.{candidates-of, candidates-few, candidates-plain}
use Rattle.chc_templates.proofs.candidate_laws.candidate_law.Goals as goal

pub returns-clause-of : goal.returns-clause-of
returns-clause-of c = candidates-of

pub returns-clause-few : goal.returns-clause-few
returns-clause-few c = candidates-few

pub returns-clause-plain : goal.returns-clause-plain
returns-clause-plain c = candidates-plain
