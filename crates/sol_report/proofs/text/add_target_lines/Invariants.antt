use Rattle.std.proofs.Common.{◌≡◌, ◌++◌, drop}
use Rattle.sol_report.specs.Texts.{target_lines}
use Rattle.sol_report.proofs.text.add_target_lines.Given as goal

abbrev pub invariant-loop-entry : goal.invariant-loop-entry
invariant-loop-entry l = l.lines ++ target_lines l.program (drop l.entry-index l.verdicts) ≡ l.fn.lines ++ target_lines l.program l.verdicts
