use Rattle.std.proofs.Common.{◌≡◌}
use Rattle.chc_simplex.specs.TableauRun.{nonbasic}
use Rattle.chc_simplex.proofs.run.nonbasic.Given as goal

abbrev pub invariant-loop-at : goal.invariant-loop-at
invariant-loop-at l = l.made ≡ nonbasic l._at
