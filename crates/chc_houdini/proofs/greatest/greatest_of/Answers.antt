use Rattle.chc_houdini.proofs.Steps.{kept-last}
use Rattle.chc_houdini.proofs.greatest.greatest_of.Goals as goal

pub returns-then-is_empty-clause-kept : goal.returns-then-is_empty-clause-kept
returns-then-is_empty-clause-kept c =
    let last = kept-last c.args.s.now c.args.limits c.args.from c.rounds.drops c.rounds.rounds c.rounds.invariant.right in
    let left = c.in_ok-lemmas.ensures in
    cc
