use Rattle.std.proofs.Common.{◌≡◌, [], length}
use Rattle.sol_reader.specs.Reading.{all_onto, variable_in}
use Rattle.sol_reader.proofs.contract.variables_in.Given as goal

abbrev pub invariant-loop-rest : goal.invariant-loop-rest
invariant-loop-rest l = all_onto variable_in l.variables l.rest ≡ all_onto variable_in [] l.fn.members

abbrev pub decreases-loop-rest : goal.decreases-loop-rest
decreases-loop-rest l = length l.rest
