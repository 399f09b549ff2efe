use Rattle.std.proofs.Common.{◌≡◌, pos, length}
use Rattle.chc_form.specs.Linear.{lins}
use Rattle.chc_form.specs.RowSums.{constant_sum}
use Rattle.chc_form.proofs.row_sums.constant_sum.Given as goal

abbrev pub invariant-loop-ms : goal.invariant-loop-ms
invariant-loop-ms l = constant_sum l.so_far l.ms (lins l.rs) ≡ constant_sum (pos 0) l.fn.multipliers (lins l.fn.rows)

abbrev pub decreases-loop-ms : goal.decreases-loop-ms
decreases-loop-ms l = length l.ms
