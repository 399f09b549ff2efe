use Rattle.std.proofs.Common.{◌≡◌, length}
use Rattle.chc_simplex.specs.Lines.{rewritten}
use Rattle.chc_simplex.specs.Simplex.{IsKept}
use Rattle.chc_simplex.proofs.Rewriting.{rewritten_from}
use Rattle.chc_simplex.proofs.simplex.rewritten.Given as goal

abbrev pub invariant-loop-at : goal.invariant-loop-at
invariant-loop-at l = record {
  turn : rewritten_from l.fn.entering l.fn.entered l.simplex.tableau l.at ≡ rewritten l.fn.entering l.fn.entered l.fn.simplex.tableau;
  all : length l.simplex.tableau ≡ length l.fn.simplex.tableau;
  kept : IsKept l.simplex;
  variables : l.simplex.variables ≡ l.fn.simplex.variables;
  bounds : l.simplex.bounds ≡ l.fn.simplex.bounds;
}
