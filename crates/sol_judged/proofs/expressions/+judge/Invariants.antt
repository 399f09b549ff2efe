use Rattle.std.proofs.Common.{◌≡◌, ◌+◌, ◌*◌, map, drop, []}
use Rattle.sol_judged.specs.Calls.{arguments_onto}
use Rattle.sol_judged.specs.Judgement.{placed}
use Rattle.sol_judged.specs.Settings.{setting}
use Rattle.sol_judged.proofs.Heights.{size, total}
use Rattle.sol_judged.proofs.expressions.+judge.Given as goal

abbrev pub invariant-judge_all-loop-argument : goal.invariant-judge_all-loop-argument
invariant-judge_all-loop-argument l =
    let one = placed (setting l.fn.w) in
    arguments_onto l.rule l.at [] l.fn.params (map one l.fn.arguments) ≡ arguments_onto l.rule l.at l.made l.rest (map one (drop l.argument-index l.fn.arguments))

abbrev pub decreases-judge : goal.decreases-judge
decreases-judge l = 8 * size l.e.now

abbrev pub decreases-conversion : goal.decreases-conversion
decreases-conversion l = 8 * size l.value.now + 1

abbrev pub decreases-index_of : goal.decreases-index_of
decreases-index_of l = 8 * (size l.base.now + size l.index.now) + 1

abbrev pub decreases-base_member : goal.decreases-base_member
decreases-base_member l = 8 * size l.base.now + 1

abbrev pub decreases-call_of : goal.decreases-call_of
decreases-call_of l = 8 * (size l.callee.now + total (map size l.arguments.now)) + 1

abbrev pub decreases-not : goal.decreases-not
decreases-not l = 8 * size l.operand.now + 1

abbrev pub decreases-negation : goal.decreases-negation
decreases-negation l = 8 * size l.operand.now + 1

abbrev pub decreases-operation : goal.decreases-operation
decreases-operation l = 8 * (size l.left.now + size l.right.now) + 1

abbrev pub decreases-choice_of : goal.decreases-choice_of
decreases-choice_of l = 8 * (size l.condition.now + size l.chosen.now + size l.otherwise.now) + 1

abbrev pub decreases-call : goal.decreases-call
decreases-call l = 8 * total (map size l.arguments.now) + 7

abbrev pub decreases-call_thing : goal.decreases-call_thing
decreases-call_thing l = 8 * total (map size l.arguments.now) + 6

abbrev pub decreases-call_outer : goal.decreases-call_outer
decreases-call_outer l = 8 * total (map size l.arguments.now) + 6

abbrev pub decreases-call_inner : goal.decreases-call_inner
decreases-call_inner l = 8 * total (map size l.arguments.now) + 5

abbrev pub decreases-call_declared : goal.decreases-call_declared
decreases-call_declared l = 8 * total (map size l.arguments.now) + 5

abbrev pub decreases-call_push : goal.decreases-call_push
decreases-call_push l = 8 * total (map size l.arguments.now) + 5

abbrev pub decreases-call_interface : goal.decreases-call_interface
decreases-call_interface l = 8 * total (map size l.arguments.now) + 5

abbrev pub decreases-judge_all : goal.decreases-judge_all
decreases-judge_all l = 8 * total (map size l.arguments.now) + 3

abbrev pub decreases-judge_one : goal.decreases-judge_one
decreases-judge_one l = 8 * size l.argument.now + 1

abbrev pub decreases-judge_as_interface : goal.decreases-judge_as_interface
decreases-judge_as_interface l = 8 * size l.argument.now + 1
