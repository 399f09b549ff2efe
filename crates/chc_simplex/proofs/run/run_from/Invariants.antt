use Rattle.std.proofs.Common.{◌≡◌, ◌≤◌, ◌^◌}
use Rattle.chc_form.specs.Linear.{lins}
use Rattle.chc_simplex.specs.TableauRun.{run_from}
use Rattle.chc_form.specs.RowSums.{width}
use Rattle.chc_simplex.specs.Simplex.{IsKept}
use Rattle.chc_simplex.proofs.run.run_from.Given as goal

abbrev pub invariant-rounds : goal.invariant-rounds
invariant-rounds l = record {
  turn : run_from (lins l.fn.rows) l.simplex.bounds l.left l.simplex.tableau ≡ run_from (lins l.fn.rows) l.fn.simplex.bounds l.fn.pivots l.fn.simplex.tableau;
  kept : IsKept l.simplex;
  variables : l.simplex.variables ≡ width (lins l.fn.rows);
  narrow : l.simplex.variables ≤ 2 ^ 32;
}

abbrev pub decreases-rounds : goal.decreases-rounds
decreases-rounds l = l.left
