use Rattle.std.proofs.Common.{◌≡◌, List, ℕ, length}
use Rattle.std.specs.List.{list_any}
use Rattle.sol_tree.specs.declared.file.Unit as units
use Rattle.sol_names.specs.Orders.{is_missing, misses}
use Rattle.sol_names.specs.Supplied.{AreSupplied}
use Rattle.sol_names.proofs.supplied.misses.Given as goal

abbrev pub invariant-loop-rest : goal.invariant-loop-rest
invariant-loop-rest l = (us : List units.Unit) (before : List ℕ) → AreSupplied us before l.functions l.variables → list_any (is_missing us before l.unit) l.rest ≡ misses us before l.unit

abbrev pub decreases-loop-rest : goal.decreases-loop-rest
decreases-loop-rest l = length l.rest
