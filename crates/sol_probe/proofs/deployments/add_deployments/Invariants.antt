use Rattle.std.proofs.Common.{◌≡◌, drop}
use Rattle.sol_probe.specs.Filled.{filled}
use Rattle.sol_probe.specs.Probes.{deployed_by}
use Rattle.sol_probe.proofs.deployments.add_deployments.Given as goal

abbrev pub invariant-loop-args : goal.invariant-loop-args
invariant-loop-args l = filled l.all (deployed_by (drop l.args-index l.choices) l.sender) ≡ filled l.fn.all (deployed_by l.fn.choices l.sender)
