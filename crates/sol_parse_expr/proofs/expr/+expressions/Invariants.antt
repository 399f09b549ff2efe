use Rattle.std.proofs.Common.{◌≡◌, ◌≤◌, ◌+◌, ◌-◌, ◌*◌, ◌^◌, length}
use Rattle.sol_parse_expr.specs.Reading.{arguments_at, expr_at, grow, joined, operand_at, suffix_at, suffixed}
use Rattle.sol_parse_expr.proofs.expr.+expressions.Given as goal

abbrev pub decreases-expr_at : goal.decreases-expr_at
decreases-expr_at l = l.levels_left * 2 ^ 40

abbrev pub decreases-argument_at : goal.decreases-argument_at
decreases-argument_at l = l.inner * 2 ^ 40 + 1

abbrev pub decreases-closed_at : goal.decreases-closed_at
decreases-closed_at l = l.inner * 2 ^ 40 + 1

abbrev pub decreases-opposite_at : goal.decreases-opposite_at
decreases-opposite_at l = l.inner * 2 ^ 40 + 1

abbrev pub decreases-negation_at : goal.decreases-negation_at
decreases-negation_at l = l.inner * 2 ^ 40 + 1

abbrev pub decreases-operand_at : goal.decreases-operand_at
decreases-operand_at l = l.inner * 2 ^ 40 + 1

abbrev pub decreases-arguments_at : goal.decreases-arguments_at
decreases-arguments_at l = l.inner * 2 ^ 40 + 2

abbrev pub decreases-parenthesised_at : goal.decreases-parenthesised_at
decreases-parenthesised_at l = l.inner * 2 ^ 40 + 2

abbrev pub decreases-conversion_at : goal.decreases-conversion_at
decreases-conversion_at l = l.inner * 2 ^ 40 + 2

abbrev pub decreases-index_at : goal.decreases-index_at
decreases-index_at l = l.inner * 2 ^ 40 + 2

abbrev pub decreases-branches_at : goal.decreases-branches_at
decreases-branches_at l = l.inner * 2 ^ 40 + 2

abbrev pub decreases-operands_at : goal.decreases-operands_at
decreases-operands_at l = l.inner * 2 ^ 40 + 2

abbrev pub decreases-all_at : goal.decreases-all_at
decreases-all_at l = l.inner * 2 ^ 40 + 3

abbrev pub decreases-primary_at : goal.decreases-primary_at
decreases-primary_at l = l.inner * 2 ^ 40 + 3

abbrev pub decreases-choice_at : goal.decreases-choice_at
decreases-choice_at l = l.inner * 2 ^ 40 + 3

abbrev pub decreases-call_at : goal.decreases-call_at
decreases-call_at l = l.inner * 2 ^ 40 + 4

abbrev pub decreases-suffix_at : goal.decreases-suffix_at
decreases-suffix_at l = l.inner * 2 ^ 40 + 5

abbrev pub decreases-suffixes_at : goal.decreases-suffixes_at
decreases-suffixes_at l = l.inner * 2 ^ 40 + 6

abbrev pub decreases-postfix_at : goal.decreases-postfix_at
decreases-postfix_at l = l.inner * 2 ^ 40 + 7

abbrev pub decreases-prefix_at : goal.decreases-prefix_at
decreases-prefix_at l = l.inner * 2 ^ 40 + 8

abbrev pub decreases-more_at : goal.decreases-more_at
decreases-more_at l = l.inner * 2 ^ 40 + 9

abbrev pub decreases-loose_at : goal.decreases-loose_at
decreases-loose_at l = l.inner * 2 ^ 40 + (l.precedence * 2 + 10)

abbrev pub decreases-rung_at : goal.decreases-rung_at
decreases-rung_at l = l.inner * 2 ^ 40 + (l.precedence * 2 + 11)

abbrev pub invariant-arguments_at-loop-turn : goal.invariant-arguments_at-loop-turn
invariant-arguments_at-loop-turn l = (arguments_at (expr_at l.inner) (l._turn-end - l._turn) l.so_far l.height l.rest ≡ arguments_at (expr_at l.fn.inner) (length l.fn.tokens) l.fn.first l.fn.first_height l.fn.tokens) × (l.height ≤ l.inner)

abbrev pub invariant-suffixes_at-loop-turn : goal.invariant-suffixes_at-loop-turn
invariant-suffixes_at-loop-turn l = (grow suffixed l.inner (suffix_at (expr_at l.inner)) (l._turn-end - l._turn) l.so_far l.height l.rest ≡ grow suffixed l.fn.inner (suffix_at (expr_at l.fn.inner)) (length l.fn.tokens) l.fn.first l.fn.first_height l.fn.tokens) × (l.height ≤ l.inner + 1)

abbrev pub invariant-operands_at-loop-turn : goal.invariant-operands_at-loop-turn
invariant-operands_at-loop-turn l = (grow joined l.inner (operand_at l.precedence l.right (expr_at l.inner)) (l.fn.most - l._turn) l.so_far l.height l.rest ≡ grow joined l.fn.inner (operand_at l.fn.precedence l.fn.right (expr_at l.fn.inner)) l.fn.most l.fn.first l.fn.first_height l.fn.tokens) × (l.height ≤ l.inner + 1)
