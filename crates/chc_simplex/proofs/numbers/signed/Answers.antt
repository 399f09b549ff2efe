use Rattle.std.proofs.Common.{◌∙◌, pos}
use Rattle.chc_simplex.proofs.Steps.{converted}
use Rattle.chc_simplex.proofs.numbers.signed.Goals as goal

pub returns : goal.returns
returns c = c.ok.ensures.value ∙ converted c.try_from.result (pos c.args.n) c.try_from.ensures
