use Rattle.std.proofs.Common.{◌↔◌, length}
use Rattle.sol_reader.specs.Language.{Differ, function_names}
use Rattle.sol_reader.proofs.check.functions_differ.Given as goal

abbrev pub invariant-loop-rest : goal.invariant-loop-rest
invariant-loop-rest l = Differ (function_names l.fn.functions) ↔ Differ (function_names l.rest)

abbrev pub decreases-loop-rest : goal.decreases-loop-rest
decreases-loop-rest l = length l.rest
