use Rattle.std.proofs.Common.{rules}
use Rattle.std.specs.Prelude.{FitsSigned}
use Rattle.std.specs.Int.{w128}
use Rattle.std.proofs.lemmas.Int.{to_z-of_z}
use Rattle.chc_encode.proofs.Forms.{greatest-number}
use Rattle.chc_encode.proofs.path.greatest_of.Goals as goal

pub returns-clause-small : goal.returns-clause-small
returns-clause-small c =
    let fits : FitsSigned w128 c.range.result.1 = search rules in
    simp to_z-of_z (greatest-number c.args.size c.range.result.1 c.requires c.range.ensures.greatest)
