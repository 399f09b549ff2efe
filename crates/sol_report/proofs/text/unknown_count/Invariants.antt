use Rattle.std.proofs.Common.{◌≡◌, ◌+◌, ◌≤◌, drop}
use Rattle.sol_report.specs.Texts.{unknown_count}
use Rattle.sol_report.proofs.text.unknown_count.Given as goal

abbrev pub invariant-loop-entry : goal.invariant-loop-entry
invariant-loop-entry l = (l.count + unknown_count (drop l.entry-index l.verdicts) ≡ unknown_count l.verdicts) × (l.count ≤ l.entry-index)
