use Rattle.std.proofs.Common.{◌↔◌, length}
use Rattle.std.specs.List.{All}
use Rattle.sol_first.specs.Typed.{StepTyped}
use Rattle.sol_reader.proofs.check.are_typed.Given as goal

abbrev pub invariant-loop-rest : goal.invariant-loop-rest
invariant-loop-rest l = All (StepTyped l.fn.variables) l.fn.steps ↔ All (StepTyped l.fn.variables) l.rest

abbrev pub decreases-loop-rest : goal.decreases-loop-rest
decreases-loop-rest l = length l.rest
