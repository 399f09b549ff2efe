use Rattle.std.proofs.Common.{◌≡◌, length}
use Rattle.std.specs.Option.{option_or}
use Rattle.sol_names.specs.Orders.{last_concrete}
use Rattle.sol_names.proofs.contracts.last_concrete.Given as goal

abbrev pub invariant-loop-rest : goal.invariant-loop-rest
invariant-loop-rest l = option_or (last_concrete l.place l.rest) l.last ≡ last_concrete 0 l.units

abbrev pub decreases-loop-rest : goal.decreases-loop-rest
decreases-loop-rest l = length l.rest
