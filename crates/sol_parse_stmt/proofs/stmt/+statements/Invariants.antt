use Rattle.std.proofs.Common.{◌≡◌, ◌≤◌, ◌+◌, ◌-◌, ◌*◌, [], length}
use Rattle.sol_parse_stmt.specs.Reading.{statements_at, stmt_at}
use Rattle.sol_parse_stmt.proofs.stmt.+statements.Given as goal

abbrev pub decreases-stmt_at : goal.decreases-stmt_at
decreases-stmt_at l = l.levels_left * 8

abbrev pub decreases-statements_at : goal.decreases-statements_at
decreases-statements_at l = l.inner * 8 + 1

abbrev pub decreases-braces_at : goal.decreases-braces_at
decreases-braces_at l = l.inner * 8 + 2

abbrev pub decreases-braced_at : goal.decreases-braced_at
decreases-braced_at l = l.inner * 8 + 3

abbrev pub decreases-unchecked_at : goal.decreases-unchecked_at
decreases-unchecked_at l = l.inner * 8 + 3

abbrev pub decreases-boxed_at : goal.decreases-boxed_at
decreases-boxed_at l = l.inner * 8 + 1

abbrev pub decreases-may_else_at : goal.decreases-may_else_at
decreases-may_else_at l = l.inner * 8 + 2

abbrev pub decreases-otherwise_at : goal.decreases-otherwise_at
decreases-otherwise_at l = l.inner * 8 + 3

abbrev pub decreases-chosen_at : goal.decreases-chosen_at
decreases-chosen_at l = l.inner * 8 + 4

abbrev pub decreases-if_at : goal.decreases-if_at
decreases-if_at l = l.inner * 8 + 5

abbrev pub decreases-repeated_at : goal.decreases-repeated_at
decreases-repeated_at l = l.inner * 8 + 2

abbrev pub decreases-while_at : goal.decreases-while_at
decreases-while_at l = l.inner * 8 + 3

abbrev pub decreases-do_at : goal.decreases-do_at
decreases-do_at l = l.inner * 8 + 2

abbrev pub decreases-headed_at : goal.decreases-headed_at
decreases-headed_at l = l.inner * 8 + 2

abbrev pub decreases-for_at : goal.decreases-for_at
decreases-for_at l = l.inner * 8 + 3

abbrev pub decreases-loop_at : goal.decreases-loop_at
decreases-loop_at l = l.inner * 8 + 4

abbrev pub decreases-compound_at : goal.decreases-compound_at
decreases-compound_at l = l.inner * 8 + 6

abbrev pub invariant-statements_at-loop-turn : goal.invariant-statements_at-loop-turn
invariant-statements_at-loop-turn l = (statements_at (stmt_at l.inner) (l._turn-end - l._turn) l.so_far l.height l.rest ≡ statements_at (stmt_at l.fn.inner) (length l.fn.tokens) [] 0 l.fn.tokens) × (l.height ≤ l.inner)
