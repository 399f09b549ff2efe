use Rattle.std.proofs.Common.{◌∙◌, arith}
use Rattle.pool_state.proofs.Testing.{lemma-left}
use Rattle.pool_state.proofs.obligations.test_lemmas.Goals as goal

pub loop-rest-preserved : goal.loop-rest-preserved
loop-rest-preserved c = (
  lemma-left c.args.s.now c.args.have.now c.loop-rest.lemma c.l-item.result c.loop-rest.rest.now c.loop-rest.left.now c.in_ok-left.left.now c.in-len1-up.len_at_least c.l-item.is c.in_ok-left.ensures ∙ c.loop-rest.invariant.0,
  omega arith,
)
