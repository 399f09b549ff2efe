use Rattle.chc_cert.proofs.Laws.{passes-refutes, refutes-passes}
use Rattle.chc_cert.proofs.passing_laws.passing_law.Goals as goal

pub returns-clause-sound : goal.returns-clause-sound
returns-clause-sound c = passes-refutes

pub returns-clause-complete : goal.returns-clause-complete
returns-clause-complete c = refutes-passes
