use Rattle.std.proofs.Common.{◌≡◌, map, drop}
use Rattle.sol_judged.specs.Settings.{setting}
use Rattle.sol_declared.specs.Specifiers.{overridden_name}
use Rattle.sol_stated.specs.Checks.{all_checks}
use Rattle.sol_declared.proofs.specifiers.check_names.Given as goal

abbrev pub invariant-loop-name : goal.invariant-loop-name
invariant-loop-name l =
    let one = overridden_name (setting l.fn.w) in
    all_checks (map one l.fn.specifier.names) ≡ all_checks (map one (drop l.name-index l.fn.specifier.names))
