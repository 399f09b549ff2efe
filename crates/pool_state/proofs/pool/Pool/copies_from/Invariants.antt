use Rattle.std.specs.Prelude.{◌≡◌, take}
use Rattle.pool_state.proofs.pool.Pool.copies_from.Given as goal

abbrev pub invariant-loop-lemma : goal.invariant-loop-lemma
invariant-loop-lemma l = l.copies.items ≡ take l.lemma-index l.lemma-items
