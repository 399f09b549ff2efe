use Rattle.std.proofs.Common.{◌≡◌, map, drop}
use Rattle.sol_judged.specs.Settings.{setting}
use Rattle.sol_declared.specs.Members.{event_param}
use Rattle.sol_stated.specs.Checks.{all_checks}
use Rattle.sol_declared.proofs.members.judge_event.Given as goal

abbrev pub invariant-loop-param : goal.invariant-loop-param
invariant-loop-param l =
    let one = event_param (setting l.fn.w) in
    all_checks (map one l.fn.all.params) ≡ all_checks (map one (drop l.param-index l.fn.all.params))
