use Rattle.std.specs.Prelude.{◌≡◌, ◌+◌, length}
use Rattle.chc_reduce.specs.Obligations.{for_lemmas}
use Rattle.pool_state.specs.Tested.{tested}
use Rattle.pool_state.proofs.obligations.test_lemmas.Given as goal

abbrev pub invariant-loop-rest : goal.invariant-loop-rest
invariant-loop-rest l =
    (tested (for_lemmas l.s l.have l.lemma l.rest) l.left ≡ tested (for_lemmas l.s l.have 0 l.lemmas) l.proofs) × (l.lemma + length l.rest ≡ length l.lemmas)

abbrev pub decreases-loop-rest : goal.decreases-loop-rest
decreases-loop-rest l = length l.rest
