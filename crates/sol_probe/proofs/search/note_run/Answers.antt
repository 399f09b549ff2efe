use Rattle.sol_probe.proofs.FirstHits.{noted-ok}
use Rattle.sol_probe.proofs.search.note_run.Goals as goal

pub returns : goal.returns
returns c = noted-ok c.args.p.now c.args.script.now c.in_ok-run.run' c.as_slice.result.now c.args.firsts.now c.note.new.firsts c.note.result c.in_ok-run.ensures c.as_slice.ensures c.note.ensures
