use Rattle.std.specs.Prelude.{◌≡◌, ◌+◌, length}
use Rattle.chc_reduce.specs.Obligations.{at_rules}
use Rattle.pool_state.specs.Tested.{tested}
use Rattle.pool_state.proofs.obligations.test_rules.Given as goal

abbrev pub invariant-loop-rest : goal.invariant-loop-rest
invariant-loop-rest l =
    (tested (at_rules l.s l.have l.lemma l.l l.rule l.rest) l.left ≡ tested (at_rules l.s l.have l.lemma l.l 0 l.s.rules) l.proofs) × (l.rule + length l.rest ≡ length l.s.rules)

abbrev pub decreases-loop-rest : goal.decreases-loop-rest
decreases-loop-rest l = length l.rest
