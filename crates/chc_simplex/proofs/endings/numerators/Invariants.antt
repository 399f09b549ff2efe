use Rattle.std.proofs.Common.{◌≡◌, length}
use Rattle.chc_simplex.specs.Outcomes.{joined}
use Rattle.chc_simplex.specs.Endings.{numerators}
use Rattle.chc_simplex.proofs.endings.numerators.Given as goal

abbrev pub invariant-loop-rest : goal.invariant-loop-rest
invariant-loop-rest l = joined l.made (numerators l.fn.denominator l.rest) ≡ numerators l.fn.denominator l.fn.fractions

abbrev pub decreases-loop-rest : goal.decreases-loop-rest
decreases-loop-rest l = length l.rest
