use Rattle.std.proofs.Common.{◌≡◌, map, take, []}
use Rattle.sol_eval.proofs.deployment.empty_maps.Given as goal

abbrev pub invariant-loop-type : goal.invariant-loop-type
invariant-loop-type l = l.all ≡ map (λ t. []) (take l._type-index l.types)
