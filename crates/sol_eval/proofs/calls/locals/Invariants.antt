use Rattle.std.proofs.Common.{◌≡◌, ◌++◌, map, take, pos}
use Rattle.sol_eval.proofs.calls.locals.Given as goal

abbrev pub invariant-loop-type : goal.invariant-loop-type
invariant-loop-type l = l.all.items ≡ l.args ++ map (λ t. pos 0) (take l._type-index l.types)
