use Rattle.std.proofs.Common.{◌≡◌, drop}
use Rattle.sol_probe.specs.Filled.{filled}
use Rattle.sol_probe.specs.Probes.{called_by}
use Rattle.sol_probe.proofs.calls.add_calls.Given as goal

abbrev pub invariant-loop-args : goal.invariant-loop-args
invariant-loop-args l = filled l.all (called_by l.door (drop l.args-index l.choices) l.sender) ≡ filled l.fn.all (called_by l.door l.fn.choices l.sender)
