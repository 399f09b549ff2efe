use Rattle.std.proofs.Common.{◌≡◌, ◌+◌, ◌++◌, length, drop}
use Rattle.sol_first.specs.Elaborated.{sites_of_steps, stmts_of}
use Rattle.sol_first.proofs.elaborate.body.Given as goal

abbrev pub invariant-loop-step : goal.invariant-loop-step
invariant-loop-step l = record {
  body : l.body ++ stmts_of l.variables l.next (drop l.step-index l.steps) ≡ stmts_of l.variables l.fn.next l.steps;
  next : l.next + length (sites_of_steps (drop l.step-index l.steps)) ≡ l.fn.next + length (sites_of_steps l.steps);
}
