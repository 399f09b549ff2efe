use Rattle.std.proofs.Common.{◌≡◌, drop}
use Rattle.std.specs.List.{list_all}
use Rattle.sol_core.specs.TypesOf.{has_some}
use Rattle.sol_core.specs.Statements.{types_of}
use Rattle.sol_core.proofs.statements.have_types.Given as goal

abbrev pub invariant-loop-e : goal.invariant-loop-e
invariant-loop-e l = list_all has_some (types_of l.p l.locals (drop l.e-index l.es)) ≡ list_all has_some (types_of l.p l.locals l.fn.es)
