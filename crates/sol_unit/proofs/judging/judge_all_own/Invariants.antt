use Rattle.std.proofs.Common.{◌≡◌, drop}
use Rattle.sol_unit.specs.Judging.{judge_all_own}
use Rattle.sol_unit.proofs.judging.judge_all_own.Given as goal

abbrev pub invariant-loop-unit : goal.invariant-loop-unit
invariant-loop-unit l = record {
  shared : l.shared ≡ l.fn.shared;
  place : l.place ≡ l.unit-index;
  judged : judge_all_own l.units l.fn.shared l.lineage 0 l.units ≡ judge_all_own l.units l.fn.shared l.lineage l.place (drop l.unit-index l.units);
}
