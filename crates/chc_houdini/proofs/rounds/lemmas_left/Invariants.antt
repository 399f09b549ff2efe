use Rattle.std.proofs.Common.{◌≡◌, ◌+◌, ◌++◌, length}
use Rattle.chc_houdini.specs.Drops.{left_from}
use Rattle.chc_houdini.proofs.rounds.lemmas_left.Given as goal

abbrev pub invariant-loop-rest : goal.invariant-loop-rest
invariant-loop-rest l = (l.left ++ left_from l.drops l.round l.k l.rest ≡ left_from l.drops l.round 0 l.fn.from) × (l.k + length l.rest ≡ length l.fn.from)

abbrev pub decreases-loop-rest : goal.decreases-loop-rest
decreases-loop-rest l = length l.rest
