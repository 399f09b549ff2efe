use Rattle.std.proofs.Common.{◌≡◌, List, ℕ, [], length}
use Rattle.sol_names.specs.Orders.{misses_after}
use Rattle.sol_names.specs.Supplied.{AreSupplied}
use Rattle.sol_names.proofs.supplied.order_misses.Given as goal

abbrev pub invariant-loop-rest : goal.invariant-loop-rest
invariant-loop-rest l = (before : List ℕ) × AreSupplied l.units before l.functions l.variables × (misses_after l.units before l.rest ≡ misses_after l.units [] l.order)

abbrev pub decreases-loop-rest : goal.decreases-loop-rest
decreases-loop-rest l = length l.rest
