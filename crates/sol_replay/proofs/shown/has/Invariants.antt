use Rattle.std.proofs.Common.{ℕ}
use Rattle.sol_replay.proofs.Hitting.{NoneIs}
use Rattle.sol_replay.proofs.shown.has.Given as goal

abbrev pub invariant-loop-site : goal.invariant-loop-site
invariant-loop-site l = NoneIs l.sites l.target l.site-index
