use Rattle.std.proofs.Common.{length}
use Rattle.chc_form.specs.Linear.{AscendFrom}
use Rattle.chc_tests.proofs.simplex.ascends_from.Given as goal

abbrev pub invariant-loop-rest : goal.invariant-loop-rest
invariant-loop-rest l = AscendFrom l.last l.rest → AscendFrom l.fn.first l.fn.terms

abbrev pub decreases-loop-rest : goal.decreases-loop-rest
decreases-loop-rest l = length l.rest
