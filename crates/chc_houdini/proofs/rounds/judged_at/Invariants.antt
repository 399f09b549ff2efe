use Rattle.std.proofs.Common.{◌≡◌, map}
use Rattle.chc_reduce.specs.Premises.{ArePremises, InOrder}
use Rattle.chc_houdini.specs.Candidates.{turned}
use Rattle.chc_houdini.proofs.rounds.judged_at.Given as goal

abbrev pub invariant-loop-candidate : goal.invariant-loop-candidate
invariant-loop-candidate l = (l.made ≡ map (turned l.s l.limits l.have l.j l.rule) l.yielded) × ArePremises l.s l.j l.have l.premises × InOrder l.premises
