use Rattle.std.proofs.Common.{◌≡◌, take}
use Rattle.sol_eval.proofs.outside.copy_arrays.Given as goal

abbrev pub invariant-loop-array : goal.invariant-loop-array
invariant-loop-array l = l.all ≡ take l.array-index l.arrays
