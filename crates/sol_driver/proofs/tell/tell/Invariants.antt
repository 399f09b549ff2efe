use Rattle.std.proofs.Common.{drop}
use Rattle.std.specs.List.{concat}
use Rattle.sol_driver.proofs.Writing.{SoFar}
use Rattle.sol_driver.proofs.tell.tell.Given as goal

abbrev pub invariant-loop-line : goal.invariant-loop-line
invariant-loop-line g l = SoFar (g.K.Sink.faults l.fn.out) (g.K.Sink.faults l.out) (g.K.Sink.written l.fn.out) (g.K.Sink.written l.out) (concat (drop l.line-index l.lines)) (concat l.lines)
