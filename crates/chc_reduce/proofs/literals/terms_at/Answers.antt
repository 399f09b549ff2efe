use Rattle.std.proofs.Common.{rules, [], length, FitsSigned}
use Rattle.std.specs.Int.{w128}
use Rattle.std.proofs.lemmas.Int.{to_z-of_z}
use Rattle.chc_reduce.specs.Literals.{terms_onto}
use Rattle.chc_reduce.proofs.Bounds.{onward, onto_turn}
use Rattle.chc_reduce.proofs.literals.terms_at.Goals as goal

pub loop-rest-preserved : goal.loop-rest-preserved
loop-rest-preserved c =
    let fits : FitsSigned w128 c.term-item.result.1 = search rules in
    let e = simp to_z-of_z at c.in_ok-made.ensures in
    let w = onward (length c.args.terms.now) c.in-Some.x c.term-item.result.1 c.loop-rest.made c.as_slice.result.now c.in_ok-made.made c.loop-rest.rest.now fits c.as_slice.ensures e c.loop-rest.invariant.1 c.loop-rest.invariant.2 c.in-len1-up.len_at_least in
    (onto_turn c.args.atom.now c.in-Some.x c.loop-rest.made c.as_slice.result.now c.in_ok-made.made c.loop-rest.rest.now (terms_onto c.args.atom.now [] c.args.terms.now) c.term-item.result c.as_slice.ensures c.in-Some.ensures e c.loop-rest.invariant.0 c.in-len1-up.len_at_least c.term-item.is, w.0, w.1)
