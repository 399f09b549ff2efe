use Rattle.std.proofs.Common.{◌≡◌, map, drop}
use Rattle.sol_stated.specs.Checks.{all_checks}
use Rattle.sol_unit.specs.Judging.{judge_place}
use Rattle.sol_unit.proofs.judging.judge_units.Given as goal

abbrev pub invariant-loop-place : goal.invariant-loop-place
invariant-loop-place l =
    let one = judge_place l.scene l.units in
    all_checks (map one l.order) ≡ all_checks (map one (drop l.place-index l.order))
