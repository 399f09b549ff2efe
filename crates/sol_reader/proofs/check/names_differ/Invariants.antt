use Rattle.std.proofs.Common.{◌↔◌, ◌++◌, length}
use Rattle.sol_reader.specs.Language.{Differ, variable_names, function_names}
use Rattle.sol_reader.proofs.check.names_differ.Given as goal

abbrev pub invariant-loop-rest : goal.invariant-loop-rest
invariant-loop-rest l = Differ (variable_names l.fn.variables ++ function_names l.fn.functions) ↔ Differ (variable_names l.rest ++ function_names l.fn.functions)

abbrev pub decreases-loop-rest : goal.decreases-loop-rest
decreases-loop-rest l = length l.rest
