use Rattle.std.proofs.Common.{◌∙◌, sym, ap}
use Rattle.std.specs.Prelude.{FitsSigned}
use Rattle.std.specs.Int.{w128}
use Rattle.std.proofs.lemmas.Int.{to_z-of_z}
use Rattle.chc_templates.specs.Constants.{placed}
use Rattle.chc_templates.proofs.Orders.{firsts-small}
use Rattle.chc_templates.proofs.placing.with_number.Goals as goal

pub returns : goal.returns
returns c =
    let f : FitsSigned w128 c.args.x = c.ranges.x in
    let s = simp to_z-of_z at c.is_small.ensures in
    let p = simp to_z-of_z at c.in_ok-more.ensures in
    c.cut-2.ensures ∙ firsts-small c.args.made c.in_ok-more.more c.args.x (sym s ∙ c.if-not-is_small.false) (p ∙ ap (placed c.args.x) c.as_slice.ensures)
