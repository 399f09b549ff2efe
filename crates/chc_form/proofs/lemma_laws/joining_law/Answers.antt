use Rattle.chc_form.proofs.Joining.{joined}
use Rattle.chc_form.proofs.lemma_laws.joining_law.Goals as goal

pub returns : goal.returns
returns c = joined
