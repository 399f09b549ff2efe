use Rattle.std.proofs.Common.{◌≡◌, ◌*ℤ◌}
use Rattle.sol_judged.specs.LiteralNumbers.{whole, power_of}
use Rattle.sol_judged.proofs.numbers.large_power.Given as goal

abbrev pub invariant-loop-left : goal.invariant-loop-left
invariant-loop-left l = whole (l.so_far *ℤ power_of l.a l.left) ≡ whole (power_of l.a l.exponent)

abbrev pub decreases-loop-left : goal.decreases-loop-left
decreases-loop-left l = l.left
