use Rattle.std.proofs.Common.{◌≡◌, length}
use Rattle.chc_simplex.specs.Terms.{Ascends, coefficient}
use Rattle.chc_simplex.proofs.terms.coefficient_in_order.Given as goal

abbrev pub invariant-loop-rest : goal.invariant-loop-rest
invariant-loop-rest l = (coefficient l.rest l.fn.variable ≡ coefficient l.fn.terms l.fn.variable) × Ascends 0 l.rest

abbrev pub decreases-loop-rest : goal.decreases-loop-rest
decreases-loop-rest l = length l.rest
