use Rattle.std.proofs.Common.{take}
use Rattle.sol_probe.specs.Noted.{AreFirstOf}
use Rattle.sol_probe.proofs.search.first_of_all.Given as goal

abbrev pub invariant-loop-script : goal.invariant-loop-script
invariant-loop-script l = AreFirstOf l.p (take l.script-index l.scripts) l.firsts
