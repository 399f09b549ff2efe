use Rattle.std.proofs.Common.{◌≡◌, ◌+◌, length}
use Rattle.chc_simplex.specs.Outcomes.{joined}
use Rattle.chc_simplex.specs.Endings.{fractions}
use Rattle.chc_simplex.proofs.endings.fractions.Given as goal

abbrev pub invariant-loop-rest : goal.invariant-loop-rest
invariant-loop-rest l = (joined l.made (fractions l.fn.variables l.fn.bounds l.variable l.rest) ≡ fractions l.fn.variables l.fn.bounds 0 l.fn.tableau) × (l.variable + length l.rest ≡ length l.fn.tableau)

abbrev pub decreases-loop-rest : goal.decreases-loop-rest
decreases-loop-rest l = length l.rest
