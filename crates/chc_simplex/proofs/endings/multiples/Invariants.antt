use Rattle.std.proofs.Common.{◌≡◌, pos, length}
use Rattle.chc_simplex.specs.Endings.{multiples}
use Rattle.chc_simplex.proofs.endings.multiples.Given as goal

abbrev pub invariant-loop-rest : goal.invariant-loop-rest
invariant-loop-rest l = multiples l.so_far l.rest ≡ multiples (pos 1) l.fn.fractions

abbrev pub decreases-loop-rest : goal.decreases-loop-rest
decreases-loop-rest l = length l.rest
