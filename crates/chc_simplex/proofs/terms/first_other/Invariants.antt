use Rattle.std.proofs.Common.{◌≡◌, ◌≤◌, length}
use Rattle.chc_simplex.specs.Terms.{others}
use Rattle.chc_simplex.proofs.terms.first_other.Given as goal

abbrev pub invariant-loop-rest : goal.invariant-loop-rest
invariant-loop-rest l = (others l.skipped l.rest ≡ others l.skipped l.fn.terms) × (length l.rest ≤ length l.fn.terms)

abbrev pub decreases-loop-rest : goal.decreases-loop-rest
decreases-loop-rest l = length l.rest
