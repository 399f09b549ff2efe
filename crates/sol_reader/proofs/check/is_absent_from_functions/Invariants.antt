use Rattle.std.proofs.Common.{◌↔◌, length}
use Rattle.sol_reader.specs.Language.{Absent, function_names}
use Rattle.sol_reader.proofs.check.is_absent_from_functions.Given as goal

abbrev pub invariant-loop-rest : goal.invariant-loop-rest
invariant-loop-rest l = Absent l.fn.name (function_names l.fn.functions) ↔ Absent l.fn.name (function_names l.rest)

abbrev pub decreases-loop-rest : goal.decreases-loop-rest
decreases-loop-rest l = length l.rest
