use Rattle.std.proofs.Common.{◌≡◌, drop, map}
use Rattle.sol_core.specs.TypesOf.{have, type_of}
use Rattle.sol_core.proofs.types_of.+type_of.Given as goal

abbrev pub invariant-have-loop-e : goal.invariant-have-loop-e
invariant-have-loop-e l = have l.rest (map (type_of l.p l.locals) (drop l.e-index l.es)) ≡ have l.fn.types (map (type_of l.p l.locals) l.fn.es)
