use Rattle.std.proofs.Common.{arith}
use Rattle.chc_simplex.specs.Lines.{rewritten}
use Rattle.chc_simplex.proofs.Rewriting.{from-end}
use Rattle.chc_simplex.proofs.simplex.rewritten.Goals as goal

pub returns : goal.returns
returns c = record {
  tableau = from-end c.args.entering c.args.entered.now c.loop-at.simplex.tableau c.loop-at.at (rewritten c.args.entering c.args.entered.now c.args.simplex.tableau) (omega arith) c.loop-at.invariant.turn;
  kept = c.loop-at.invariant.kept;
  variables = c.loop-at.invariant.variables;
  bounds = c.loop-at.invariant.bounds;
}
