use Rattle.std.proofs.Common.{◌≡◌, ◌++◌, length}
use Rattle.chc_form.specs.Linear.{lins}
use Rattle.chc_simplex.specs.TableauRun.{slack_lines}
use Rattle.chc_simplex.proofs.run.with_slacks.Given as goal

abbrev pub invariant-loop-rest : goal.invariant-loop-rest
invariant-loop-rest l = l.made ++ slack_lines (lins l.rest) ≡ l.fn.first ++ slack_lines (lins l.fn.rows)

abbrev pub decreases-loop-rest : goal.decreases-loop-rest
decreases-loop-rest l = length l.rest
