use Rattle.std.proofs.Common.{rules}
use Rattle.chc_simplex.specs.Terms.{Ascends}
use Rattle.chc_simplex.proofs.Ascending.{entered-ascend, lines}
use Rattle.chc_simplex.proofs.simplex.rewritten_at.Goals as goal

pub with_line-requires-clause-order : goal.with_line-requires-clause-order
with_line-requires-clause-order c =
    let l : Ascends 0 c.in-Some-Some.line.terms = search (rules, lines) in
    entered-ascend c.args.entering c.args.entered.now _ c.in-Some-Some.line c.in_ok-made.made l c.requires.order c.in_ok-made.ensures
