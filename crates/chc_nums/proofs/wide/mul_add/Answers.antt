use Rattle.std.proofs.Common.{◌*ℤ◌}
use Rattle.std.specs.Prelude.{FitsSigned}
use Rattle.std.specs.Int.{w128}
use Rattle.std.proofs.lemmas.Int.{to_z-of_z}
use Rattle.chc_nums.proofs.Fits.{mul_add-is}
use Rattle.chc_nums.proofs.wide.mul_add.Goals as goal

pub returns : goal.returns
returns c =
    let fa : FitsSigned w128 c.args.a = c.ranges.a in
    let fb : FitsSigned w128 c.args.b = c.ranges.b in
    let fc : FitsSigned w128 c.args.c = c.ranges.c in
    let fd : FitsSigned w128 c.args.d = c.ranges.d in
    let h = simp to_z-of_z at c.mul_add_in.ensures in
    mul_add-is c.mul_add_in.result (c.args.a *ℤ c.args.b) (c.args.c *ℤ c.args.d) h
