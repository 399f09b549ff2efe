use Rattle.std.proofs.Common.{◌≡◌, drop}
use Rattle.sol_driver.specs.Texts.{is_unknown, some_verdict}
use Rattle.sol_driver.proofs.outcome.some_unknown.Given as goal

abbrev pub invariant-loop-entry : goal.invariant-loop-entry
invariant-loop-entry l = some_verdict is_unknown (drop l.entry-index l.verdicts) ≡ some_verdict is_unknown l.verdicts
