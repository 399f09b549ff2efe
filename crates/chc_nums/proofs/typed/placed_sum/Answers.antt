use Rattle.std.proofs.Common.{◌∙◌, ap, sym, rules, ◌+ℤ◌}
use Rattle.std.specs.Prelude.{FitsSigned}
use Rattle.std.specs.Int.{w128}
use Rattle.std.proofs.lemmas.Int.{to_z-of_z}
use Rattle.chc_nums.specs.Types.{placed}
use Rattle.chc_nums.proofs.Fits.{in_128-value}
use Rattle.chc_nums.proofs.Ranges.{sum-over, sum-under}
use Rattle.chc_nums.proofs.typed.placed_sum.Goals as goal

pub returns-in-Some : goal.returns-in-Some
returns-in-Some c =
    let fa : FitsSigned w128 c.args.a = c.ranges.a in
    let fb : FitsSigned w128 c.args.b = c.ranges.b in
    let fz : FitsSigned w128 c.in-Some.z = search rules in
    let e = simp to_z-of_z at c.in-Some.ensures in
    let p = simp to_z-of_z at c.placed.ensures in
    p ∙ ap (placed c.args.ty) (in_128-value (c.args.a +ℤ c.args.b) c.in-Some.z (sym e))

pub returns-then-a-lt0 : goal.returns-then-a-lt0
returns-then-a-lt0 c =
    let fa : FitsSigned w128 c.args.a = c.ranges.a in
    let fb : FitsSigned w128 c.args.b = c.ranges.b in
    let e = simp to_z-of_z at c.in-None.ensures in
    sum-under c.args.ty c.args.a c.args.b c.requires fb (sym e) (simp to_z-of_z at c.if-a-lt0.true)

pub returns-else-a-lt0 : goal.returns-else-a-lt0
returns-else-a-lt0 c =
    let fa : FitsSigned w128 c.args.a = c.ranges.a in
    let fb : FitsSigned w128 c.args.b = c.ranges.b in
    let e = simp to_z-of_z at c.in-None.ensures in
    sum-over c.args.ty c.args.a c.args.b c.requires fb (sym e) (simp to_z-of_z at c.if-a-lt0.false)
