use Rattle.std.proofs.Common.{◌≡◌, map, drop}
use Rattle.sol_judged.specs.Settings.{setting}
use Rattle.sol_declared.specs.Specifiers.{variable_override}
use Rattle.sol_stated.specs.Checks.{all_checks}
use Rattle.sol_declared.proofs.specifiers.check_variable_overrides.Given as goal

abbrev pub invariant-loop-mark : goal.invariant-loop-mark
invariant-loop-mark l =
    let one = variable_override (setting l.fn.w) in
    all_checks (map one l.fn.marks) ≡ all_checks (map one (drop l.mark-index l.fn.marks))
