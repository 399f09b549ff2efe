use Rattle.std.proofs.Common.{◌≡◌, length}
use Rattle.chc_simplex.specs.Terms.{scaled_onto}
use Rattle.chc_simplex.proofs.terms.scaled.Given as goal

abbrev pub invariant-loop-v : goal.invariant-loop-v
invariant-loop-v l = scaled_onto l.made l.fn.factors.right l.rest ≡ scaled_onto l.fn.made l.fn.factors.right l.fn.terms

abbrev pub decreases-loop-v : goal.decreases-loop-v
decreases-loop-v l = length l.rest
