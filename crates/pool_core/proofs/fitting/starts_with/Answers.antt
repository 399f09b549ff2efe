use Rattle.pool_core.proofs.Starting.{front-taken, taken-front}
use Rattle.pool_core.proofs.fitting.starts_with.Goals as goal

pub returns-then-front-lemmas : goal.returns-then-front-lemmas
returns-then-front-lemmas c =
    (λ h. front-taken c.args.lemmas.now c.args.front.now (c.all_alike.ensures.0 h), λ s. c.all_alike.ensures.1 (taken-front c.args.lemmas.now c.args.front.now s))
