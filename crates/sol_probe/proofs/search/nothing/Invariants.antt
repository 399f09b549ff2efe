use Rattle.std.proofs.Common.{◌≡◌, replicate, None}
use Rattle.sol_probe.proofs.search.nothing.Given as goal

abbrev pub invariant-loop-i : goal.invariant-loop-i
invariant-loop-i l = l.firsts ≡ replicate l._i None
