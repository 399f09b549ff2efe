use Rattle.std.proofs.Common.{◌+◌, ◌*◌}
use Rattle.sol_parse_expr.proofs.types.+types.Given as goal

abbrev pub decreases-entry_at : goal.decreases-entry_at
decreases-entry_at l = l.levels_left * 4 + 1

abbrev pub decreases-mapping_at : goal.decreases-mapping_at
decreases-mapping_at l = l.levels_left * 4 + 2

abbrev pub decreases-first_type_at : goal.decreases-first_type_at
decreases-first_type_at l = l.levels_left * 4 + 3

abbrev pub decreases-type_at : goal.decreases-type_at
decreases-type_at l = l.levels_left * 4
