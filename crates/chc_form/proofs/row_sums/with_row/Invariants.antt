use Rattle.std.proofs.Common.{◌≡◌, length}
use Rattle.chc_form.specs.RowSums.{with_row}
use Rattle.chc_form.proofs.row_sums.with_row.Given as goal

abbrev pub invariant-loop-rest : goal.invariant-loop-rest
invariant-loop-rest l = with_row l.fn.multiplier l.rest l.sums ≡ with_row l.fn.multiplier l.fn.terms l.fn.sums

abbrev pub decreases-loop-rest : goal.decreases-loop-rest
decreases-loop-rest l = length l.rest
