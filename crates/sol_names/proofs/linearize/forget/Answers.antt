use Rattle.std.proofs.Common.{◌∙◌, sym}
use Rattle.sol_names.proofs.Settling.{forgetting-start, forgetting-within, forgetting-more}
use Rattle.sol_names.proofs.linearize.forget.Goals as goal

pub loop-rest-init : goal.loop-rest-init
loop-rest-init c = forgetting-start c.args.used.now c.args.bases.now c.args.orders.now c.requires.bases

pub forget_one-requires-clause-base : goal.forget_one-requires-clause-base
forget_one-requires-clause-base c = forgetting-within c.args.used.now c.args.bases.now c.loop-rest.rest.now c.args.orders.now c.loop-rest.orders c.in-len1-up.len_at_least c.loop-rest.invariant

pub forget_one-requires-clause-used : goal.forget_one-requires-clause-used
forget_one-requires-clause-used c = c.requires.used ∙ sym c.loop-rest.invariant.size

pub loop-rest-preserved : goal.loop-rest-preserved
loop-rest-preserved c =
    forgetting-more c.args.used.now c.args.bases.now c.loop-rest.rest.now c.args.orders.now c.loop-rest.orders c.forget_one.new.orders c.in-len1-up.len_at_least c.forget_one.ensures.size c.forget_one.ensures.kept c.loop-rest.invariant

pub returns-clause-kept : goal.returns-clause-kept
returns-clause-kept c = c.loop-rest.invariant.forgets
