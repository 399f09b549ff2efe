use Rattle.std.proofs.Common.{◌∙◌, sym, rules}
use Rattle.std.specs.Prelude.{FitsSigned}
use Rattle.std.specs.Int.{w128}
use Rattle.std.proofs.lemmas.Int.{to_z-of_z}
use Rattle.sol_judged.proofs.Wholes.{remainder-some, remainder-rest}
use Rattle.sol_judged.proofs.numbers.exact_remainder.Goals as goal

pub returns-in-Some : goal.returns-in-Some
returns-in-Some c =
    let fa : FitsSigned w128 c.args.a = c.ranges.a in
    let fb : FitsSigned w128 c.args.b = c.ranges.b in
    let fr : FitsSigned w128 c.in-Some.rest = search rules in
    let e = simp to_z-of_z at c.in-Some.ensures in
    let w = simp to_z-of_z at c.whole.ensures in
    w ∙ remainder-some c.args.a c.args.b c.in-Some.rest (sym e)

pub returns-else-is_zero : goal.returns-else-is_zero
returns-else-is_zero c =
    let fa : FitsSigned w128 c.args.a = c.ranges.a in
    let fb : FitsSigned w128 c.args.b = c.ranges.b in
    let e = simp to_z-of_z at c.in-None.ensures in
    let n = sym (simp to_z-of_z at c.is_zero.ensures) ∙ c.if-is_zero.false in
    c.whole-else-is_zero.ensures ∙ sym (remainder-rest c.args.a c.args.b fa (sym e) n)
