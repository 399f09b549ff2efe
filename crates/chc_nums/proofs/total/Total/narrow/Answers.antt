use Rattle.std.proofs.Common.{◌∙◌, sym, ap, rules, FitsSigned, ◌+ℤ◌, ◌*ℤ◌}
use Rattle.std.specs.Int.{w128}
use Rattle.std.proofs.lemmas.Int.{to_z-of_z}
use lib.IntN.{ℤ}
use Rattle.chc_nums.specs.Wide.{in_128}
use Rattle.chc_nums.specs.Totals.{half}
use Rattle.chc_nums.proofs.Fits.{in_128-value}
use Rattle.chc_nums.proofs.Halves.{wide-is}
use Rattle.chc_nums.proofs.total.Total.narrow.Goals as goal

pub returns-in_err-product : goal.returns-in_err-product
returns-in_err-product c =
    let fits-high : FitsSigned w128 c.self.inside.high = search rules in
    let e = simp to_z-of_z at c.in_err-product.ensures in
    c.from_residual.ensures ∙ sym (wide-is c.args.self.now c.self.inside.high c.self.inside.low c.self.view_is c.self.invariant.0 c.self.invariant.1 (sym e))

pub returns : goal.returns
returns c =
    let fits-high : FitsSigned w128 c.self.inside.high = search rules in
    let fits-low : FitsSigned w128 c.self.inside.low = search rules in
    let fits-whole : FitsSigned w128 c.in_ok-product.field-0 = search rules in
    let e = simp to_z-of_z at c.in_ok-product.ensures in
    let s = simp to_z-of_z at c.sum.ensures in
    let x = in_128-value (c.self.inside.high *ℤ half) c.in_ok-product.field-0 (sym e) in
    s ∙ ap in_128 (ap (λ (z : ℤ). z +ℤ c.self.inside.low) x ∙ c.self.view_is)
