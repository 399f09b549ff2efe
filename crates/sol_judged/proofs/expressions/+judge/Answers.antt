use Rattle.std.proofs.Common.{arith, rules}
use Rattle.std.proofs.lemmas.List.{length-drop, length-map}
use Rattle.std.proofs.lemmas.Result.{err_from_is_err_and}
use Rattle.sol_judged.specs.Judgement.{placed}
use Rattle.sol_judged.specs.Settings.{setting}
use Rattle.sol_judged.proofs.Arguments.{too_many, too_few, faulty_at}
use Rattle.sol_judged.proofs.expressions.+judge.Goals as goal

pub judge_all-returns-in-empty : goal.judge_all-returns-in-empty
judge_all-returns-in-empty t c = rw c.loop-argument.invariant (too_many c.args.rule c.args.at _ _ _ (omega arith) (simp (length-map, length-drop) (omega arith)))

pub judge_all-returns-else-is_empty : goal.judge_all-returns-else-is_empty
judge_all-returns-else-is_empty t c = rw c.loop-argument.invariant (too_few c.args.rule c.args.at _ _ _ (search rules) (simp (length-map, length-drop) (omega arith)))

pub judge_all-returns-in_err-e-in-len1-up : goal.judge_all-returns-in_err-e-in-len1-up
judge_all-returns-in_err-e-in-len1-up t c =
    let q = err_from_is_err_and c.from_residual.result c.from_residual.ensures.1 in
    rw (q.1, q.2, c.loop-argument.invariant) (faulty_at c.args.rule c.args.at _ c.loop-argument.rest.now _ (placed (setting c.args.w.now)) c.loop-argument.argument-index c.args.arguments.now c.argument-item.result _ (omega arith) (omega arith) c.argument-item.is c.in_err-e-in-len1-up.ensures)
