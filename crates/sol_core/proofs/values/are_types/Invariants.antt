use Rattle.std.proofs.Common.{◌≡◌, drop}
use Rattle.std.specs.List.{list_all}
use Rattle.sol_core.specs.Values.{is_type}
use Rattle.sol_core.proofs.values.are_types.Given as goal

abbrev pub invariant-loop-ty : goal.invariant-loop-ty
invariant-loop-ty l = list_all is_type (drop l.ty-index l.types) ≡ list_all is_type l.fn.types
