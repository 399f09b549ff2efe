use Rattle.std.proofs.Common.{◌∙◌, sym, rules}
use Rattle.std.specs.Prelude.{FitsSigned, int_rem}
use Rattle.std.specs.Int.{w128}
use Rattle.std.proofs.lemmas.Int.{to_z-of_z}
use Rattle.chc_nums.proofs.Quotients.{divided-some, divided-rest, placed-zero}
use Rattle.chc_nums.proofs.typed.placed_remainder.Goals as goal

pub returns-in-Some : goal.returns-in-Some
returns-in-Some c =
    let fa : FitsSigned w128 c.args.a = c.ranges.a in
    let fb : FitsSigned w128 c.args.b = c.ranges.b in
    let fz : FitsSigned w128 c.in-Some.z = search rules in
    let e = simp to_z-of_z at c.in-Some.ensures in
    let p = simp to_z-of_z at c.placed.ensures in
    p ∙ divided-some c.args.ty c.args.a c.args.b (int_rem c.args.a c.args.b) c.in-Some.z (sym e)

pub returns-else-is_zero : goal.returns-else-is_zero
returns-else-is_zero c =
    let fa : FitsSigned w128 c.args.a = c.ranges.a in
    let fb : FitsSigned w128 c.args.b = c.ranges.b in
    let e = simp to_z-of_z at c.in-None.ensures in
    let n = sym (simp to_z-of_z at c.is_zero.ensures) ∙ c.if-is_zero.false in
    rw n (rw (divided-rest c.args.a c.args.b (int_rem c.args.a c.args.b) fa (sym e) n) (placed-zero c.args.ty c.requires))
