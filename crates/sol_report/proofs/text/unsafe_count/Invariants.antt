use Rattle.std.proofs.Common.{◌≡◌, ◌+◌, ◌≤◌, drop}
use Rattle.sol_report.specs.Texts.{unsafe_count}
use Rattle.sol_report.proofs.text.unsafe_count.Given as goal

abbrev pub invariant-loop-entry : goal.invariant-loop-entry
invariant-loop-entry l = (l.count + unsafe_count (drop l.entry-index l.verdicts) ≡ unsafe_count l.verdicts) × (l.count ≤ l.entry-index)
