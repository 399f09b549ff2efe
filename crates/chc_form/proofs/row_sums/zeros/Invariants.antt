use Rattle.std.proofs.Common.{◌≡◌}
use Rattle.chc_form.specs.RowSums.{zeros}
use Rattle.chc_form.proofs.row_sums.zeros.Given as goal

abbrev pub invariant-loop-at : goal.invariant-loop-at
invariant-loop-at l = l.made ≡ zeros l._at
