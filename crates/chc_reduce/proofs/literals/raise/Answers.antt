use Rattle.std.proofs.Common.{rules, refl, FitsSigned}
use Rattle.std.specs.Int.{w128}
use Rattle.std.proofs.lemmas.Int.{to_z-of_z}
use Rattle.chc_reduce.specs.Literals.{raised}
use Rattle.chc_reduce.proofs.Terms.{same-ok}
use Rattle.chc_reduce.proofs.literals.raise.Goals as goal

pub returns-then-x-term-2 : goal.returns-then-x-term-2
returns-then-x-term-2 c =
    let fits : FitsSigned w128 c.args.a.now = search rules in
    let more = simp to_z-of_z at c.plus.ensures in
    same-ok c.finish-then-x-term-2.result c.args.x c.args.a.now c.plus.result c.loop-rest.made c.loop-rest.made c.loop-rest.rest.now (raised c.args.x c.args.a.now c.args.terms.now) c.term-item.result refl c.in-len1-up.len_at_least c.term-item.is c.if-x-term-2.true more c.loop-rest.invariant.0 c.finish-then-x-term-2.ensures
