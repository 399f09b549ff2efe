use Rattle.std.proofs.Common.{◌≡◌, ◌≤◌, ◌^◌, max, length}
use Rattle.chc_form.specs.RowSums.{terms_width}
use Rattle.chc_form.proofs.row_sums.terms_width.Given as goal

abbrev pub invariant-loop-rest : goal.invariant-loop-rest
invariant-loop-rest l = (max l.width (terms_width l.rest) ≡ terms_width l.fn.terms) × (l.width ≤ 2 ^ 32)

abbrev pub decreases-loop-rest : goal.decreases-loop-rest
decreases-loop-rest l = length l.rest
