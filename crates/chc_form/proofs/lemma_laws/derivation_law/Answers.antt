use Rattle.chc_form.proofs.Deriving.{derived-not_refuted}
use Rattle.chc_form.proofs.lemma_laws.derivation_law.Goals as goal

pub returns : goal.returns
returns c = derived-not_refuted
