use Rattle.std.proofs.Common.{◌∙◌, sym, ap, List, [], ◌∷◌, ◌++◌, ◌<◌, length, arith}
use lib.IntN.{ℤ}
use Rattle.sol_eval.proofs.Filled.{filled-more}
use Rattle.sol_eval.proofs.deployment.empty_arrays.Goals as goal

pub loop-type-preserved : goal.loop-type-preserved
loop-type-preserved c =
    let below : c.loop-type._type-index < length c.args.types.now = omega arith in
    let none : List ℤ = [] in
    let added = rw c.new.ensures at c.in_ok-push.ensures.added in
    added ∙ ap (λ (all : List (List ℤ)). all ++ none ∷ []) c.loop-type.invariant ∙ sym (filled-more none c.args.types.now c.loop-type._type-index below)
