use Rattle.std.proofs.Common.{◌≡◌, drop, []}
use Rattle.std.specs.List.{flat_map}
use Rattle.sol_probe.specs.Filled.{filled}
use Rattle.sol_probe.specs.Probes.{with_calls}
use Rattle.sol_probe.proofs.probes.called.Given as goal

abbrev pub invariant-loop-script : goal.invariant-loop-script
invariant-loop-script l = filled l.all (flat_map (with_calls l.calls) (drop l.script-index l.scripts)) ≡ filled [] (flat_map (with_calls l.calls) l.fn.scripts)
