use Rattle.std.proofs.Common.{◌≡◌, ◌++◌, length}
use Rattle.chc_templates.specs.Constants.{placed}
use Rattle.chc_templates.proofs.placing.placed.Given as goal

abbrev pub invariant-loop-rest : goal.invariant-loop-rest
invariant-loop-rest l = l.made ++ placed l.fn.x l.rest ≡ placed l.fn.x l.fn.numbers

abbrev pub decreases-loop-rest : goal.decreases-loop-rest
decreases-loop-rest l = length l.rest
