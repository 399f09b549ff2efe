use Rattle.std.proofs.Common.{◌≡◌, ◌≤◌, ◌^◌, max, length}
use Rattle.chc_form.specs.Linear.{lins}
use Rattle.chc_form.specs.RowSums.{width}
use Rattle.chc_form.proofs.row_sums.width.Given as goal

abbrev pub invariant-loop-rest : goal.invariant-loop-rest
invariant-loop-rest l = (max l.width (width (lins l.rest)) ≡ width (lins l.fn.rows)) × (l.width ≤ 2 ^ 32)

abbrev pub decreases-loop-rest : goal.decreases-loop-rest
decreases-loop-rest l = length l.rest
