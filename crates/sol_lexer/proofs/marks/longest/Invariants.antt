use Rattle.std.proofs.Common.{◌≡◌, max, length}
use Rattle.sol_tree.specs.Refused.{texts}
use Rattle.sol_lexer.specs.Reading.{longest}
use Rattle.sol_lexer.proofs.marks.longest.Given as goal

abbrev pub invariant-loop-rest : goal.invariant-loop-rest
invariant-loop-rest l = max l.best (longest (texts l.rest) l.text) ≡ longest (texts l.fn.marks) l.fn.text

abbrev pub decreases-loop-rest : goal.decreases-loop-rest
decreases-loop-rest l = length l.rest
