use Rattle.chc_houdini.proofs.Kept.{kept-contained}
use Rattle.chc_houdini.proofs.laws.kept_law.Goals as goal

pub returns-clause-contained : goal.returns-clause-contained
returns-clause-contained c = kept-contained
