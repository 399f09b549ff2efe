use Rattle.std.proofs.Common.{◌≡◌, length}
use Rattle.chc_simplex.specs.Rounds.{entering}
use Rattle.chc_simplex.proofs.rounds.entering.Given as goal

abbrev pub invariant-loop-rest : goal.invariant-loop-rest
invariant-loop-rest l = entering l.fn.variables l.rest ≡ entering l.fn.variables l.fn.terms

abbrev pub decreases-loop-rest : goal.decreases-loop-rest
decreases-loop-rest l = length l.rest
