use Rattle.std.proofs.Common.{◌≡◌, ℕ, None, length}
use Rattle.sol_names.specs.Known.{known}
use Rattle.sol_names.proofs.linearize.unknown_orders.Given as goal

abbrev pub invariant-loop-unit : goal.invariant-loop-unit
invariant-loop-unit l = (length l.orders.items ≡ l._unit) × ((u : ℕ) → known l.orders.items u ≡ None)
