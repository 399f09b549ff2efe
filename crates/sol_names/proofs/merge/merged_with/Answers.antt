use Rattle.std.proofs.Common.{◌≡◌, ◌∙◌, List, ℕ, Some, sym, ap, subst, map, length, arith, [], ◌∷◌, ◌++◌}
use Rattle.sol_names.specs.Linearization.{next_of, without_head}
use Rattle.sol_names.specs.Tails.{views, AllBelow, AreTails}
use Rattle.sol_names.proofs.Merging.{Taken, taken-more, heads-below}
use Rattle.sol_names.proofs.merge.merged_with.Goals as goal

pub loop-head-preserved : goal.loop-head-preserved
loop-head-preserved c =
    let whole = views c.args.lists.items in
    let ls = views c.loop-head.left.items in
    let h = c.in-Some.head in
    let next : next_of ls ≡ Some h = ap next_of (sym (ap views c.as_slice.ensures.value)) ∙ sym c.in-Some.ensures in
    let there : views c.as_slice-in-Some.result.now ≡ ls = ap views c.as_slice-in-Some.ensures.value in
    let left : views c.in_ok-left.left.items ≡ map (without_head h) ls = c.in_ok-left.ensures.lists ∙ ap (map (without_head h)) there in
    let size : length c.without_heads.new.counts ≡ length c.loop-head.counts = omega arith in
    record {
      taken =
          subst (λ (o : List ℕ). Taken whole o (views c.in_ok-left.left.items)) (sym c.in_ok-push.ensures.added)
          (subst (Taken whole (c.loop-head.order ++ h ∷ [])) (sym left) (taken-more whole ls c.loop-head.order h next c.loop-head.invariant.taken));
      below = subst (λ (n : ℕ). AllBelow n (views c.in_ok-left.left.items)) (sym size) (subst (AllBelow (length c.loop-head.counts)) (sym left) (heads-below _ h ls c.loop-head.invariant.below));
      counts = subst (AreTails c.without_heads.new.counts) (ap (map (without_head h)) there ∙ sym left) c.in_ok-left.ensures.counts;
    }
