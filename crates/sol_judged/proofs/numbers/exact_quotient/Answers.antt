use Rattle.std.proofs.Common.{◌∙◌, sym, rules}
use Rattle.std.specs.Prelude.{FitsSigned}
use Rattle.std.specs.Int.{w128}
use Rattle.std.proofs.lemmas.Int.{to_z-of_z}
use Rattle.sol_judged.proofs.Wholes.{quotient-some}
use Rattle.sol_judged.proofs.numbers.exact_quotient.Goals as goal

pub returns-in-Some : goal.returns-in-Some
returns-in-Some c =
    let fa : FitsSigned w128 c.args.a = c.ranges.a in
    let fb : FitsSigned w128 c.args.b = c.ranges.b in
    let fr : FitsSigned w128 c.in-Some.rest = search rules in
    let e = simp to_z-of_z at c.in-Some.ensures in
    let q = simp to_z-of_z at c.quotient_without_rest.ensures in
    q ∙ quotient-some c.args.a c.args.b c.in-Some.rest (sym e)
