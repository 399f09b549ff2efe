use Rattle.std.proofs.Common.{◌≡◌, drop}
use Rattle.sol_probe.specs.Filled.{filled}
use Rattle.sol_probe.specs.Probes.{fronted}
use Rattle.sol_probe.proofs.choices.add_fronted.Given as goal

abbrev pub invariant-loop-values : goal.invariant-loop-values
invariant-loop-values l = filled l.all (fronted (drop l.values-index l.rest) l.value) ≡ filled l.fn.all (fronted l.fn.rest l.value)
