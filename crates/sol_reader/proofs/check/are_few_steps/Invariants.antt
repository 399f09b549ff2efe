use Rattle.std.proofs.Common.{◌↔◌, ◌≤◌, length}
use Rattle.sol_reader.specs.Language.{step_count}
use Rattle.sol_reader.proofs.check.are_few_steps.Given as goal

abbrev pub invariant-loop-rest : goal.invariant-loop-rest
invariant-loop-rest l = ((step_count l.fn.functions ≤ 4096) ↔ (step_count l.rest ≤ l.room)) × (l.room ≤ 4096)

abbrev pub decreases-loop-rest : goal.decreases-loop-rest
decreases-loop-rest l = length l.rest
