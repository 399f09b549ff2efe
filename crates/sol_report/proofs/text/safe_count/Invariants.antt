use Rattle.std.proofs.Common.{◌≡◌, ◌+◌, ◌≤◌, drop}
use Rattle.sol_report.specs.Texts.{safe_count}
use Rattle.sol_report.proofs.text.safe_count.Given as goal

abbrev pub invariant-loop-entry : goal.invariant-loop-entry
invariant-loop-entry l = (l.count + safe_count (drop l.entry-index l.verdicts) ≡ safe_count l.verdicts) × (l.count ≤ l.entry-index)
