use Rattle.std.proofs.Common.{◌≡◌, length, []}
use Rattle.sol_probe.specs.Filled.{filled}
use Rattle.sol_probe.specs.Probes.{calls_from}
use Rattle.sol_probe.proofs.calls.calls.Given as goal

abbrev pub invariant-loop-rest : goal.invariant-loop-rest
invariant-loop-rest l = filled l.all (calls_from l.p l.door l.rest) ≡ filled [] (calls_from l.p 0 l.p.doors)

abbrev pub decreases-loop-rest : goal.decreases-loop-rest
decreases-loop-rest l = length l.rest
