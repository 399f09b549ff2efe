use Rattle.std.proofs.Common.{◌≡◌, ◌+◌, length}
use Rattle.chc_houdini.specs.Candidates.{judged_by}
use Rattle.chc_houdini.proofs.Judging.{AreRest}
use Rattle.chc_houdini.proofs.rounds.judged_by.Given as goal

abbrev pub invariant-loop-rest : goal.invariant-loop-rest
invariant-loop-rest l = (judged_by l.s l.limits l.have l.j l.rest l.candidates ≡ judged_by l.s l.limits l.have 0 l.s.rules l.fn.candidates) × AreRest l.s l.j l.rest × (l.j + length l.rest ≡ length l.s.rules)

abbrev pub decreases-loop-rest : goal.decreases-loop-rest
decreases-loop-rest l = length l.rest
