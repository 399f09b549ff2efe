use Rattle.std.proofs.Common.{◌≡◌, map, take}
use Rattle.chc_nums.specs.declared.Ty.TheVariants as ty
use Rattle.sol_first.proofs.elaborate.types.Given as goal

abbrev pub invariant-loop-variable : goal.invariant-loop-variable
invariant-loop-variable l = l.types ≡ map (λ v. ty.Uint v.size) (take l.variable-index l.variables)
