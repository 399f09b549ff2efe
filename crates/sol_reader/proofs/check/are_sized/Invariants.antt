use Rattle.std.proofs.Common.{◌↔◌, length}
use Rattle.std.specs.List.{All}
use Rattle.chc_nums.specs.Types.{IsSize}
use Rattle.sol_reader.proofs.check.are_sized.Given as goal

abbrev pub invariant-loop-rest : goal.invariant-loop-rest
invariant-loop-rest l = All (λ v. IsSize v.size) l.fn.variables ↔ All (λ v. IsSize v.size) l.rest

abbrev pub decreases-loop-rest : goal.decreases-loop-rest
decreases-loop-rest l = length l.rest
