use Rattle.std.proofs.Common.{◌∙◌, sym, ap, List, [], ◌∷◌, ◌++◌, ◌<◌, length, arith}
use Rattle.sol_core.specs.Mappings.{Mapping}
use Rattle.sol_eval.proofs.Filled.{filled-more}
use Rattle.sol_eval.proofs.deployment.empty_maps.Goals as goal

pub loop-type-preserved : goal.loop-type-preserved
loop-type-preserved c =
    let below : c.loop-type._type-index < length c.args.types.now = omega arith in
    let none : Mapping = [] in
    let added = rw c.new.ensures at c.in_ok-push.ensures.added in
    added ∙ ap (λ (all : List Mapping). all ++ none ∷ []) c.loop-type.invariant ∙ sym (filled-more none c.args.types.now c.loop-type._type-index below)
