use Rattle.std.proofs.Common.{◌≡◌, ◌∙◌, ◌+◌, ◌<◌, ◌++◌, [], ◌∷◌, ℕ, List, sym, ap, subst, map, length, take, drop, ◌-◌, arith}
use denote.Ref.{Bor}
use Rattle.sol_names.specs.Linearization.{without_head}
use Rattle.sol_names.specs.Tails.{views, AllBelow, times_in_tails}
use Rattle.sol_names.proofs.Counting.{heads-turn, counts-turn, below-turn}
use Rattle.sol_names.proofs.merge.without_heads.Goals as goal

pub loop-rest-preserved : goal.loop-rest-preserved
loop-rest-preserved c =
    let rs = c.loop-rest.rest.now in
    let one = c.in-len1-up.len_at_least in
    let size : length c.without_head.new.counts ≡ length c.loop-rest.counts = omega arith in
    let items : c.push.new.self.items ≡ c.loop-rest.left.items ++ c.without_head.result ∷ [] = c.in_ok-push.ensures.items in
    record {
      below = subst (λ (n : ℕ). AllBelow n (views (take (length rs - 1) (drop 1 rs)))) (sym size) (below-turn _ rs one c.loop-rest.invariant.below);
      lists = ap (λ (vs : List (Bor (List ℕ))). views vs ++ map (without_head c.args.head) (views (take (length rs - 1) (drop 1 rs)))) items ∙ heads-turn c.args.head c.loop-rest.left.items rs c.without_head.result _ one c.without_head.ensures.rest c.loop-rest.invariant.lists;
      counts = λ u l.
          let within : u < length c.loop-rest.counts = omega arith in
          counts-turn u _ _ c.loop-rest.left.items rs c.without_head.result one (c.loop-rest.invariant.counts u within) (c.without_head.ensures.counts u within)
          ∙ ap (λ (vs : List (Bor (List ℕ))). times_in_tails u (views vs) + times_in_tails u (views (take (length rs - 1) (drop 1 rs)))) (sym items);
    }
