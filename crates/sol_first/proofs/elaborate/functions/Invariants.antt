use Rattle.std.proofs.Common.{◌≡◌, ◌++◌, drop}
use Rattle.sol_first.specs.Elaborated.{funs_of}
use Rattle.sol_first.proofs.elaborate.functions.Given as goal

abbrev pub invariant-loop-function : goal.invariant-loop-function
invariant-loop-function l = l.funs ++ funs_of l.variables l.next (drop l.function-index l.functions) ≡ funs_of l.variables 0 l.functions
