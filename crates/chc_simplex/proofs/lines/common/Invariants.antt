use Rattle.std.proofs.Common.{◌≡◌, length}
use Rattle.chc_simplex.specs.Lines.{common}
use Rattle.chc_simplex.proofs.lines.common.Given as goal

abbrev pub invariant-loop-rest : goal.invariant-loop-rest
invariant-loop-rest l = common l.divisor l.rest ≡ common l.fn.first l.fn.terms

abbrev pub decreases-loop-rest : goal.decreases-loop-rest
decreases-loop-rest l = length l.rest
