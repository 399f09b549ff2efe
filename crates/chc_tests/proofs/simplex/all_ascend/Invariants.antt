use Rattle.std.proofs.Common.{length}
use Rattle.chc_form.specs.Linear.{AllAscend}
use Rattle.chc_form.specs.Linear.{lins}
use Rattle.chc_tests.proofs.simplex.all_ascend.Given as goal

abbrev pub invariant-loop-rest : goal.invariant-loop-rest
invariant-loop-rest l = AllAscend (lins l.rest) → AllAscend (lins l.fn.rows)

abbrev pub decreases-loop-rest : goal.decreases-loop-rest
decreases-loop-rest l = length l.rest
