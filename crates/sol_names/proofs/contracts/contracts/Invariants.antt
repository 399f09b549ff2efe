use Rattle.std.proofs.Common.{◌≡◌, List, ℕ, length}
use Rattle.std.specs.Option.{option_or}
use Rattle.std.specs.List.{position_from}
use Rattle.sol_names.specs.Names.{number_of}
use Rattle.sol_names.specs.Orders.{is_contract_of, contract_named}
use Rattle.sol_names.proofs.contracts.contracts.Given as goal

abbrev pub invariant-loop-rest : goal.invariant-loop-rest
invariant-loop-rest l = (q : List ℕ) → option_or (number_of l.numbers q) (position_from (is_contract_of q) l.place l.rest) ≡ contract_named q l.units

abbrev pub decreases-loop-rest : goal.decreases-loop-rest
decreases-loop-rest l = length l.rest
