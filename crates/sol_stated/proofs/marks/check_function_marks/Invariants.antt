use Rattle.std.proofs.Common.{◌≡◌, map, drop}
use Rattle.sol_stated.specs.Checks.{all_checks}
use Rattle.sol_stated.specs.Contexts.{context, setting_in}
use Rattle.sol_stated.specs.Marks.{function_mark}
use Rattle.sol_stated.proofs.marks.check_function_marks.Given as goal

abbrev pub invariant-loop-mark : goal.invariant-loop-mark
invariant-loop-mark l =
    let one = function_mark (context l.fn.around) (setting_in (context l.fn.around) l.fn.scope) in
    all_checks (map one l.fn.marks) ≡ all_checks (map one (drop l.mark-index l.fn.marks))
