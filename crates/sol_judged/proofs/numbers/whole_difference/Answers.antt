use Rattle.std.proofs.Common.{Option, ap, ◌-ℤ◌, ◌∙◌}
use Rattle.std.specs.Prelude.{FitsSigned}
use Rattle.std.specs.Int.{w128}
use Rattle.std.proofs.lemmas.Int.{to_z-of_z}
use lib.IntN.{ℤ}
use Rattle.chc_nums.specs.Values.{with_value}
use Rattle.sol_judged.specs.LiteralNumbers.{whole}
use Rattle.sol_judged.proofs.Wholes.{whole-in}
use Rattle.sol_judged.proofs.numbers.whole_difference.Goals as goal

pub returns : goal.returns
returns c =
    let fa : FitsSigned w128 c.args.a = c.ranges.a in
    let fb : FitsSigned w128 c.args.b = c.ranges.b in
    let e = simp to_z-of_z at c.difference.ensures in
    c.whole_of.ensures ∙ ap (λ (o : Option ℤ). with_value o whole) e ∙ whole-in (c.args.a -ℤ c.args.b)
