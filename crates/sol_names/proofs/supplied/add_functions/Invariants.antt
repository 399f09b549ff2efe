use Rattle.std.proofs.Common.{◌≡◌, ◌||◌, List, ℕ, is_some, length}
use Rattle.std.specs.List.{list_any}
use Rattle.sol_names.specs.Names.{number_of}
use Rattle.sol_names.specs.Units.{implemented}
use Rattle.sol_names.specs.Orders.{gives}
use Rattle.sol_names.proofs.supplied.add_functions.Given as goal

abbrev pub invariant-loop-rest : goal.invariant-loop-rest
invariant-loop-rest l = (q : List ℕ) → (is_some (number_of l.numbers q) || list_any (gives implemented q) l.rest) ≡ (is_some (number_of l.fn.numbers q) || list_any (gives implemented q) l.members)

abbrev pub decreases-loop-rest : goal.decreases-loop-rest
decreases-loop-rest l = length l.rest
