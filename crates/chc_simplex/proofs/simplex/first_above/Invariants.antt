use Rattle.std.proofs.Common.{◌≡◌, ◌+◌, length}
use Rattle.chc_simplex.specs.Simplex.{first_above}
use Rattle.chc_simplex.proofs.simplex.first_above.Given as goal

abbrev pub invariant-loop-rest : goal.invariant-loop-rest
invariant-loop-rest l = (first_above l.variable l.rest ≡ first_above 0 l.fn.above_flags) × (l.variable + length l.rest ≡ length l.fn.above_flags)

abbrev pub decreases-loop-rest : goal.decreases-loop-rest
decreases-loop-rest l = length l.rest
