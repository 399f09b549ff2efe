use Rattle.std.proofs.Common.{length}
use Rattle.sol_probe.proofs.choices.+choices.Given as goal

abbrev pub decreases-choices : goal.decreases-choices
decreases-choices l = length l.types.now
