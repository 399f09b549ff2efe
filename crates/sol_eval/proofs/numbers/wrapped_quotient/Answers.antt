use Rattle.std.proofs.Common.{◌≡◌, ◌∙◌, sym, ap, rules}
use Rattle.std.specs.Prelude.{int_div, FitsSigned}
use Rattle.std.specs.Int.{w128}
use Rattle.std.proofs.lemmas.Int.{to_z-of_z}
use lib.IntN.{ℤ}
use Rattle.chc_nums.specs.declared.Num.TheVariants as num
use Rattle.sol_core.specs.Wrapping.{wrapped}
use Rattle.sol_eval.proofs.Wrapped.{wrapped-wrap, quotient-wrap, by-nonzero}
use Rattle.sol_eval.proofs.numbers.wrapped_quotient.Goals as goal

pub returns-else-y-eq0 : goal.returns-else-y-eq0
returns-else-y-eq0 c =
    let fits : FitsSigned w128 c.wrapped.result = search rules in
    let fd : FitsSigned w128 c.wrapping_div.result = search rules in
    let fx : FitsSigned w128 c.args.x = c.ranges.x in
    let fy : FitsSigned w128 c.args.y = c.ranges.y in
    let e = simp to_z-of_z at c.wrapped.ensures in
    let d = simp to_z-of_z at c.wrapping_div.ensures in
    let w : c.wrapped.result ≡ wrapped c.args.ty (int_div c.args.x c.args.y) = e ∙ ap (wrapped c.args.ty) (d ∙ quotient-wrap c.args.x c.args.y c.ranges.x) ∙ wrapped-wrap c.args.ty (int_div c.args.x c.args.y) c.requires in
    simp to_z-of_z (ap (λ (z : ℤ). num.Value z) w ∙ sym (by-nonzero c.args.ty c.args.y (int_div c.args.x c.args.y) c.if-y-eq0.false))
