use Rattle.std.proofs.Common.{◌≡◌, ◌++◌, drop}
use Rattle.sol_first.specs.Elaborated.{sites_of_steps}
use Rattle.sol_first.proofs.elaborate.add_sites.Given as goal

abbrev pub invariant-loop-step : goal.invariant-loop-step
invariant-loop-step l = l.sites ++ sites_of_steps (drop l.step-index l.steps) ≡ l.fn.sites ++ sites_of_steps l.steps
