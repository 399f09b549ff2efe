use Rattle.chc_ask.proofs.Answers.{asked-refuted}
use Rattle.chc_ask.proofs.laws.ask_law.Goals as goal

pub returns-clause-refuted : goal.returns-clause-refuted
returns-clause-refuted c = asked-refuted
