use Rattle.std.proofs.Common.{◌≡◌, length, true}
use Rattle.std.specs.List.{list_all}
use Rattle.sol_core.specs.Values.{takes, is_type}
use Rattle.sol_core.proofs.values.takes.Given as goal

abbrev pub invariant-loop-left : goal.invariant-loop-left
invariant-loop-left l = (takes l.left l.rest ≡ takes l.types l.numbers) × (list_all is_type l.left ≡ true)

abbrev pub decreases-loop-left : goal.decreases-loop-left
decreases-loop-left l = length l.left
