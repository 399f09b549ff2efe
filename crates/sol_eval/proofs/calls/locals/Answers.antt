use Rattle.std.proofs.Common.{◌∙◌, sym, ap, List, [], ◌∷◌, ◌++◌, ◌<◌, length, pos, arith}
use lib.IntN.{ℤ}
use Rattle.sol_eval.proofs.Filled.{filled-after}
use Rattle.sol_eval.proofs.calls.locals.Goals as goal

pub loop-type-preserved : goal.loop-type-preserved
loop-type-preserved c =
    let below : c.loop-type._type-index < length c.args.types.now = omega arith in
    c.in_ok-push.ensures.items ∙ ap (λ (ns : List ℤ). ns ++ pos 0 ∷ []) c.loop-type.invariant ∙ sym (filled-after (pos 0) c.args.args.now c.args.types.now c.loop-type._type-index below)
