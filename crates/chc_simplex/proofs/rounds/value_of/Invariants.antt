use Rattle.std.proofs.Common.{◌≡◌, pos, length}
use Rattle.chc_simplex.specs.Terms.{sums_from}
use Rattle.chc_simplex.specs.Rounds.{rest_at}
use Rattle.chc_simplex.proofs.rounds.value_of.Given as goal

abbrev pub invariant-loop-rest : goal.invariant-loop-rest
invariant-loop-rest l = sums_from l.so_far l.rest (rest_at l.fn.variables l.fn.bounds) ≡ sums_from (pos 0) l.fn.terms (rest_at l.fn.variables l.fn.bounds)

abbrev pub decreases-loop-rest : goal.decreases-loop-rest
decreases-loop-rest l = length l.rest
