use Rattle.std.proofs.Common.{◌≡◌, drop}
use Rattle.sol_probe.specs.Filled.{filled}
use Rattle.sol_probe.specs.Probes.{with_calls}
use Rattle.sol_probe.proofs.probes.add_called.Given as goal

abbrev pub invariant-loop-call : goal.invariant-loop-call
invariant-loop-call l = filled l.all (with_calls (drop l.call-index l.calls) l.script) ≡ filled l.fn.all (with_calls l.fn.calls l.script)
