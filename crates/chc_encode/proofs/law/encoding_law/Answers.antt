use Rattle.chc_encode.proofs.Laws.{sound, exact, asks}
use Rattle.chc_encode.proofs.Counting.{limits-few}
use Rattle.chc_encode.proofs.Making.{few-made}
use Rattle.chc_encode.proofs.law.encoding_law.Goals as goal

pub returns-clause-sound : goal.returns-clause-sound
returns-clause-sound c = sound

pub returns-clause-exact : goal.returns-clause-exact
returns-clause-exact c = exact

pub returns-clause-asks : goal.returns-clause-asks
returns-clause-asks c = asks

pub returns-clause-well : goal.returns-clause-well
returns-clause-well c = few-made

pub returns-clause-few : goal.returns-clause-few
returns-clause-few c = limits-few
