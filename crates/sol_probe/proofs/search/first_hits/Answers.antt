use Rattle.sol_probe.proofs.FirstHits.{hits-found}
use Rattle.sol_probe.proofs.search.first_hits.Goals as goal

pub returns : goal.returns
returns c = hits-found c.args.p.now c.in_ok-all.all c.as_slice.result.now c.first_of_all.result c.as_slice.ensures c.in_ok-all.ensures c.first_of_all.ensures
