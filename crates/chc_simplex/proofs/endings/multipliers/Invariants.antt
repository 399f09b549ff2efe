use Rattle.std.proofs.Common.{◌≡◌, ◌+◌, length}
use Rattle.chc_simplex.specs.Outcomes.{joined}
use Rattle.chc_form.specs.Linear.{lins}
use Rattle.chc_simplex.specs.Endings.{multipliers}
use Rattle.chc_simplex.proofs.endings.multipliers.Given as goal

abbrev pub invariant-loop-rest : goal.invariant-loop-rest
invariant-loop-rest l = (joined l.made (multipliers l.fn.stuck l.fn.denominator l.fn.terms l.slack (lins l.rest)) ≡ multipliers l.fn.stuck l.fn.denominator l.fn.terms l.fn.variables (lins l.fn.rows)) × (l.slack + length l.rest ≡ l.fn.variables + length l.fn.rows)

abbrev pub decreases-loop-rest : goal.decreases-loop-rest
decreases-loop-rest l = length l.rest
