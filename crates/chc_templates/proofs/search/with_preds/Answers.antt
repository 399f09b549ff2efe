use Rattle.std.proofs.Common.{◌∙◌}
use Rattle.std.specs.Prelude.{FitsSigned}
use Rattle.std.specs.Int.{w128}
use Rattle.std.proofs.lemmas.Int.{to_z-of_z}
use Rattle.chc_templates.proofs.Splitting.{preds-end}
use Rattle.chc_templates.proofs.search.with_preds.Goals as goal

pub returns : goal.returns
returns c =
    let f : FitsSigned w128 c.args.k = c.ranges.k in
    let s = simp to_z-of_z at c.loop-rest.invariant.same in
    c.cut.ensures ∙ preds-end c.args.k c.loop-rest.pred c.loop-rest.made c.loop-rest.rest.now c.in_default.len_below ∙ s
