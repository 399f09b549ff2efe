use Rattle.std.proofs.Common.{◌≡◌, ◌+◌, ◌++◌, length}
use Rattle.chc_simplex.specs.Simplex.{above_flags_of}
use Rattle.chc_simplex.proofs.simplex.above_flags_of.Given as goal

abbrev pub invariant-loop-rest : goal.invariant-loop-rest
invariant-loop-rest l = (l.made ++ above_flags_of l.fn.variables l.fn.bounds l.variable l.rest ≡ above_flags_of l.fn.variables l.fn.bounds 0 l.fn.tableau) × (l.variable + length l.rest ≡ length l.fn.tableau)

abbrev pub decreases-loop-rest : goal.decreases-loop-rest
decreases-loop-rest l = length l.rest
