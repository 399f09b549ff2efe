use Rattle.std.proofs.Common.{◌↔◌, length}
use Rattle.std.specs.List.{All}
use Rattle.sol_reader.specs.Reading.{FunctionTyped}
use Rattle.sol_reader.proofs.check.functions_typed.Given as goal

abbrev pub invariant-loop-rest : goal.invariant-loop-rest
invariant-loop-rest l = All (FunctionTyped l.fn.variables) l.fn.functions ↔ All (FunctionTyped l.fn.variables) l.rest

abbrev pub decreases-loop-rest : goal.decreases-loop-rest
decreases-loop-rest l = length l.rest
