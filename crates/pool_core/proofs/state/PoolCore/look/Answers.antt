use Rattle.std.proofs.Common.{ap, List}
use Rattle.pool_state.specs.Content.{Content}
use Rattle.pool_core.proofs.Marking.{marks-looked, seen-looked}
use Rattle.pool_core.proofs.state.PoolCore.look.Goals as goal

pub invariant_of-self : goal.invariant_of-self
invariant_of-self c = rw (c.batches.ensures.is, c.lemmas.ensures.is) (marks-looked c.self.inside.pool c.self.inside.seen.items c.args.worker c.batches.ensures.keeps c.self.invariant)

pub returns-clause-new : goal.returns-clause-new
returns-clause-new c = rw (← c.self.view_is, c.batches.ensures.is, c.lemmas.ensures.is) (ap (λ (fs : List Content). record { pool = c.self.inside.pool; seen = fs }) (seen-looked c.self.inside.pool c.self.inside.seen.items c.args.worker))
