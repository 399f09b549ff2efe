use Rattle.std.proofs.Common.{◌≡◌, ◌≤◌, ◌+◌, ◌-◌, length}
use Rattle.sol_parse_expr.specs.Reading.{array_of, brackets_at, grow}
use Rattle.sol_parse_expr.proofs.types.arrays_at.Given as goal

abbrev pub invariant-loop-turn : goal.invariant-loop-turn
invariant-loop-turn l = (grow array_of l.levels_left brackets_at (l._turn-end - l._turn) l.so_far l.height l.rest ≡ grow array_of l.fn.levels_left brackets_at (length l.fn.tokens) l.fn.first l.fn.first_height l.fn.tokens) × (l.height ≤ l.levels_left + 1)
