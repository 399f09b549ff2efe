use Rattle.std.proofs.Common.{◌∙◌, ap, rules}
use Rattle.std.specs.Prelude.{neg_ℤ, FitsSigned}
use Rattle.std.specs.Int.{w128}
use Rattle.std.proofs.lemmas.Int.{to_z-of_z, wrapping_neg_is}
use Rattle.sol_core.specs.Wrapping.{wrapped}
use Rattle.sol_eval.proofs.Wrapped.{wrapped-wrap}
use Rattle.sol_eval.proofs.numbers.wrapped_opposite.Goals as goal

pub returns : goal.returns
returns c =
    let fits : FitsSigned w128 c.wrapped.result = search rules in
    let fn : FitsSigned w128 c.wrapping_neg.result = search rules in
    let fx : FitsSigned w128 c.args.x = c.ranges.x in
    let e = simp to_z-of_z at c.wrapped.ensures in
    let n = simp to_z-of_z at c.wrapping_neg.ensures in
    simp to_z-of_z (e ∙ ap (wrapped c.args.ty) (n ∙ wrapping_neg_is w128 c.args.x c.ranges.x) ∙ wrapped-wrap c.args.ty (neg_ℤ c.args.x) c.requires)
