use Rattle.std.proofs.Common.{◌≡◌, drop}
use Rattle.sol_unit.specs.Judging.{judge_all_alone}
use Rattle.sol_unit.proofs.judging.judge_all_alone.Given as goal

abbrev pub invariant-loop-unit : goal.invariant-loop-unit
invariant-loop-unit l = judge_all_alone l.names 0 l.units ≡ judge_all_alone l.names l.place (drop l.unit-index l.units)
