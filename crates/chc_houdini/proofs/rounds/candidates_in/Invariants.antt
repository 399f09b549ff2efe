use Rattle.std.proofs.Common.{◌≡◌, ◌+◌, ◌++◌, length}
use Rattle.chc_houdini.specs.Candidates.{candidates_from}
use Rattle.chc_houdini.proofs.rounds.candidates_in.Given as goal

abbrev pub invariant-loop-rest : goal.invariant-loop-rest
invariant-loop-rest l = (l.candidates ++ candidates_from l.drops l.round l.number l.rest ≡ candidates_from l.drops l.round 0 l.fn.from) × (l.number + length l.rest ≡ length l.fn.from)

abbrev pub decreases-loop-rest : goal.decreases-loop-rest
decreases-loop-rest l = length l.rest
