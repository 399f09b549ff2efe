use Rattle.std.proofs.Common.{◌≡◌, [], length}
use Rattle.sol_reader.specs.Reading.{all_onto, step_of}
use Rattle.sol_reader.proofs.contract.steps_in.Given as goal

abbrev pub invariant-loop-rest : goal.invariant-loop-rest
invariant-loop-rest l = all_onto (step_of l.fn.lines l.fn.variables) l.steps l.rest ≡ all_onto (step_of l.fn.lines l.fn.variables) [] l.fn.statements

abbrev pub decreases-loop-rest : goal.decreases-loop-rest
decreases-loop-rest l = length l.rest
