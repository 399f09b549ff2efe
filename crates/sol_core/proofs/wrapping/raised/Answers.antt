use Rattle.std.proofs.Common.{◌≡◌, ◌∙◌, ap, sym, rules, ◌^◌, ◌+◌, ◌+ℤ◌, pos, None}
use Rattle.std.specs.Prelude.{FitsSigned}
use Rattle.std.specs.Int.{w128}
use lib.IntN.{ℤ}
use Rattle.std.proofs.lemmas.Int.{to_z-of_z}
use Rattle.chc_nums.specs.Wide.{in_128}
use Rattle.chc_nums.proofs.Fits.{in_128-value}
use Rattle.sol_core.specs.Wrapping.{modulo}
use Rattle.sol_core.proofs.HalfTypes.{high}
use Rattle.sol_core.proofs.wrapping.raised.Goals as goal

pub returns-in-Some : goal.returns-in-Some
returns-in-Some c =
    let fz : FitsSigned w128 c.args.z = c.ranges.z in
    let fp : FitsSigned w128 c.power.result = search rules in
    let fs : FitsSigned w128 c.in-Some.above = search rules in
    let fm : FitsSigned w128 c.modulo.result = search rules in
    let e = simp to_z-of_z at c.in-Some.ensures in
    let m = simp to_z-of_z at c.modulo.ensures in
    let v = in_128-value (c.args.z +ℤ c.power.result) c.in-Some.above (sym e) ∙ ap (λ (p : ℤ). c.args.z +ℤ p) c.power.ensures in
    simp to_z-of_z (m ∙ ap (λ (y : ℤ). pos (modulo y (2 ^ (c.args.bits + 1)))) v)

pub lowered-requires-clause-high : goal.lowered-requires-clause-high
lowered-requires-clause-high c =
    let fz : FitsSigned w128 c.args.z = c.ranges.z in
    let fp : FitsSigned w128 c.power.result = search rules in
    let e = simp to_z-of_z at c.in-None.ensures in
    let n : in_128 (c.args.z +ℤ pos (2 ^ c.args.bits)) ≡ None = sym (rw c.power.ensures at e) in
    simp to_z-of_z (high c.args.z c.args.bits c.requires n fz)
