use Rattle.std.proofs.Common.{◌∙◌, ap, rules}
use Rattle.std.specs.Prelude.{◌+ℤ◌, FitsSigned}
use Rattle.std.specs.Int.{w128}
use Rattle.std.proofs.lemmas.Int.{to_z-of_z, wrapping_add_is}
use Rattle.sol_core.specs.Wrapping.{wrapped}
use Rattle.sol_eval.proofs.Wrapped.{wrapped-wrap}
use Rattle.sol_eval.proofs.numbers.wrapped_sum.Goals as goal

pub returns : goal.returns
returns c =
    let fits : FitsSigned w128 c.wrapped.result = search rules in
    simp to_z-of_z (c.wrapped.ensures ∙ ap (wrapped c.args.ty) (wrapping_add_is w128 c.args.x c.args.y c.ranges.x c.ranges.y) ∙ wrapped-wrap c.args.ty (c.args.x +ℤ c.args.y) c.requires)
