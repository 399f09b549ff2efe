use Rattle.std.proofs.Common.{◌≡◌, length}
use Rattle.std.specs.Prelude.{IfSome}
use Rattle.sol_probe.specs.FirstHit.{AreFirstHits}
use Rattle.sol_check.specs.Found.{VerdictsFound}
use Rattle.sol_check.proofs.judge.judge.Given as goal

abbrev pub invariant-loop-site : goal.invariant-loop-site
invariant-loop-site l = record {
  found : VerdictsFound l.program l.system l.drops l.lemmas 0 l.verdicts;
  table : IfSome l.table (AreFirstHits l.program);
  count : length l.verdicts ≡ l._site-index;
}
