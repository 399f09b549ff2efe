use Rattle.std.proofs.Common.{◌≡◌, ◌++◌, length}
use Rattle.chc_simplex.proofs.run.row_terms.Given as goal

abbrev pub invariant-loop-rest : goal.invariant-loop-rest
invariant-loop-rest l = l.made ++ l.rest ≡ l.fn.terms

abbrev pub decreases-loop-rest : goal.decreases-loop-rest
decreases-loop-rest l = length l.rest
