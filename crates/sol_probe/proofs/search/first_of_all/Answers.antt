use Rattle.std.proofs.Common.{arith}
use Rattle.sol_probe.proofs.FirstHits.{first-more}
use Rattle.sol_probe.proofs.search.first_of_all.Goals as goal

pub loop-script-preserved : goal.loop-script-preserved
loop-script-preserved c = first-more c.args.p.now c.args.scripts.now c.loop-script.script-index c.script-item.result c.loop-script.firsts c.note_run.new.firsts (omega arith) c.script-item.is c.loop-script.invariant c.in_ok-note_run.ensures
