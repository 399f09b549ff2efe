use Rattle.std.proofs.Common.{◌≡◌}
use Rattle.chc_houdini.specs.Rounds.{no_round}
use Rattle.chc_houdini.specs.Candidates.{gathered}
use Rattle.chc_houdini.proofs.rounds.gathered.Given as goal

abbrev pub invariant-loop-candidate : goal.invariant-loop-candidate
invariant-loop-candidate l = l.so_far ≡ gathered l.round no_round l.yielded
