use Rattle.std.proofs.Common.{◌∙◌, sym}
use Rattle.sol_names.specs.Tails.{views}
use Rattle.sol_names.proofs.Counting.{next-found, next-turn, below-turn}
use Rattle.sol_names.proofs.merge.next_head.Goals as goal

pub returns-then-counts-head-eq0 : goal.returns-then-counts-head-eq0
returns-then-counts-head-eq0 c =
    sym (next-found (views c.args.lists.now) c.args.counts.now c.loop-rest.rest.now c.requires.counted c.loop-rest.invariant.1 c.in-len1-up.len_at_least c.in-len1-up-list.len_at_least c.if-counts-head-eq0.true)
    ∙ c.loop-rest.invariant.0

pub loop-rest-preserved : goal.loop-rest-preserved
loop-rest-preserved c =
    (next-turn (views c.args.lists.now) c.args.counts.now c.loop-rest.rest.now c.requires.counted c.loop-rest.invariant.1 c.in-len1-up.len_at_least c.in-len1-up-list.len_at_least c.if-counts-head-eq0.false ∙ c.loop-rest.invariant.0, below-turn _ c.loop-rest.rest.now c.in-len1-up.len_at_least c.loop-rest.invariant.1)
