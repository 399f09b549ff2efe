use Rattle.std.proofs.Common.{◌≡◌, length}
use Rattle.chc_form.specs.Linear.{lins}
use Rattle.chc_form.specs.RowSums.{variable_sums}
use Rattle.chc_form.proofs.row_sums.variable_sums.Given as goal

abbrev pub invariant-loop-ms : goal.invariant-loop-ms
invariant-loop-ms l = variable_sums l.ms (lins l.rs) l.sums ≡ variable_sums l.fn.multipliers (lins l.fn.rows) l.fn.sums

abbrev pub decreases-loop-ms : goal.decreases-loop-ms
decreases-loop-ms l = length l.ms
