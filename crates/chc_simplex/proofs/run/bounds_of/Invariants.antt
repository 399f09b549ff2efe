use Rattle.std.proofs.Common.{◌≡◌, length}
use Rattle.chc_simplex.specs.Outcomes.{joined}
use Rattle.chc_form.specs.Linear.{lins}
use Rattle.chc_simplex.specs.TableauRun.{bounds_of}
use Rattle.chc_simplex.proofs.run.bounds_of.Given as goal

abbrev pub invariant-loop-rest : goal.invariant-loop-rest
invariant-loop-rest l = joined l.made (bounds_of (lins l.rest)) ≡ bounds_of (lins l.fn.rows)

abbrev pub decreases-loop-rest : goal.decreases-loop-rest
decreases-loop-rest l = length l.rest
