use Rattle.std.proofs.Common.{◌∙◌, ap, rules, ◌^◌, ◌+◌, pos}
use Rattle.std.specs.Prelude.{FitsSigned}
use Rattle.std.specs.Int.{w128}
use lib.IntN.{ℤ}
use Rattle.std.proofs.lemmas.Int.{to_z-of_z}
use Rattle.sol_core.specs.Wrapping.{modulo}
use Rattle.sol_core.proofs.HalfTypes.{modulo-half}
use Rattle.sol_core.proofs.wrapping.lowered.Goals as goal

pub returns : goal.returns
returns c =
    let fz : FitsSigned w128 c.args.z = c.ranges.z in
    let fb : FitsSigned w128 c.below.result = search rules in
    let fm : FitsSigned w128 c.modulo.result = search rules in
    let b = simp to_z-of_z at c.below.ensures in
    let m = simp to_z-of_z at c.modulo.ensures in
    simp to_z-of_z (m ∙ ap (λ (y : ℤ). pos (modulo y (2 ^ (c.args.bits + 1)))) b ∙ ap pos (modulo-half c.args.z c.args.bits c.requires.high))
