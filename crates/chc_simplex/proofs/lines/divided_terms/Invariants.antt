use Rattle.std.proofs.Common.{◌≡◌, length}
use Rattle.chc_simplex.specs.Outcomes.{joined}
use Rattle.chc_simplex.specs.Lines.{divided_terms}
use Rattle.chc_simplex.proofs.lines.divided_terms.Given as goal

abbrev pub invariant-loop-rest : goal.invariant-loop-rest
invariant-loop-rest l = joined l.made (divided_terms l.fn.divisor l.rest) ≡ divided_terms l.fn.divisor l.fn.terms

abbrev pub decreases-loop-rest : goal.decreases-loop-rest
decreases-loop-rest l = length l.rest
