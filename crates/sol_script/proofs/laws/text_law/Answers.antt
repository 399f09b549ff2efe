use Rattle.sol_script.proofs.BothWays.{text-law}
use Rattle.sol_script.proofs.laws.text_law.Goals as goal

pub returns : goal.returns
returns c = record { law = text-law c.args.p.now c.requires }
