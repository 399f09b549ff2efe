use Rattle.std.proofs.Common.{◌≡◌, drop, []}
use Rattle.std.specs.List.{flat_map}
use Rattle.sol_probe.specs.Filled.{filled}
use Rattle.sol_probe.specs.Probes.{fronted}
use Rattle.sol_probe.proofs.choices.fronts.Given as goal

abbrev pub invariant-loop-value : goal.invariant-loop-value
invariant-loop-value l = filled l.all (flat_map (fronted l.rest) (drop l.value-index l.values)) ≡ filled [] (flat_map (fronted l.rest) l.fn.values)
