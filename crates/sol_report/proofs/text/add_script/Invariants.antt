use Rattle.std.proofs.Common.{◌≡◌, ◌++◌, map, drop}
use Rattle.sol_report.specs.Texts.{indented}
use Rattle.sol_report.proofs.text.add_script.Given as goal

abbrev pub invariant-loop-line : goal.invariant-loop-line
invariant-loop-line l = l.lines ++ map indented (drop l.line-index l.script) ≡ l.fn.lines ++ map indented l.script
