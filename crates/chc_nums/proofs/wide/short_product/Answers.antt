use Rattle.std.proofs.Common.{refl, ◌*ℤ◌, FitsSigned}
use Rattle.std.specs.Int.{w128}
use Rattle.std.proofs.lemmas.Int.{to_z-of_z}
use Rattle.chc_nums.proofs.Fits.{short-product}
use Rattle.chc_nums.proofs.wide.short_product.Goals as goal

pub returns : goal.returns
returns c =
    let fa : FitsSigned w128 c.args.a = c.ranges.a in
    let fb : FitsSigned w128 c.args.b = c.ranges.b in
    let fp : FitsSigned w128 (c.args.a *ℤ c.args.b) = short-product c.args.a c.args.b c.requires.first c.requires.second in
    simp to_z-of_z refl
