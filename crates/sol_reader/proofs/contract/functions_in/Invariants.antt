use Rattle.std.proofs.Common.{◌≡◌, [], length}
use Rattle.sol_reader.specs.Reading.{all_onto, function_in}
use Rattle.sol_reader.proofs.contract.functions_in.Given as goal

abbrev pub invariant-loop-rest : goal.invariant-loop-rest
invariant-loop-rest l = all_onto (function_in l.fn.lines l.fn.variables) l.functions l.rest ≡ all_onto (function_in l.fn.lines l.fn.variables) [] l.fn.members

abbrev pub decreases-loop-rest : goal.decreases-loop-rest
decreases-loop-rest l = length l.rest
