use Rattle.std.proofs.Common.{ℕ}
use Rattle.sol_replay.proofs.Hitting.{NoneBefore}
use Rattle.sol_replay.proofs.shown.hits.Given as goal

abbrev pub invariant-loop-hit : goal.invariant-loop-hit
invariant-loop-hit l = NoneBefore l.sites l.hits l.target l.hit-index
