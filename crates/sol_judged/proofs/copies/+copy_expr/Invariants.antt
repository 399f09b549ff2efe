use Rattle.std.proofs.Common.{◌≡◌, take}
use Rattle.sol_judged.proofs.copies.+copy_expr.Given as goal

abbrev pub invariant-copy_all-loop-e : goal.invariant-copy_all-loop-e
invariant-copy_all-loop-e l = l.made ≡ take l.e-index l.all
