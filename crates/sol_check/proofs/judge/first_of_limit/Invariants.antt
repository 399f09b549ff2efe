use Rattle.std.proofs.Common.{◌≡◌, drop}
use Rattle.sol_check.specs.Verdicts.{first_of_limit}
use Rattle.sol_check.proofs.judge.first_of_limit.Given as goal

abbrev pub invariant-loop-stop : goal.invariant-loop-stop
invariant-loop-stop l = first_of_limit (drop l.stop-index l.drops) ≡ first_of_limit l.drops
