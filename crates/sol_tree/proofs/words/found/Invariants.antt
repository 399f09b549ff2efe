use Rattle.std.proofs.Common.{◌≡◌, length}
use Rattle.sol_tree.specs.Words.{found, rows}
use Rattle.sol_tree.proofs.words.found.Given as goal

abbrev pub invariant-loop-rest : goal.invariant-loop-rest
invariant-loop-rest g l = found l.text (rows l.rest) ≡ found l.fn.text (rows l.fn.table)

abbrev pub decreases-loop-rest : goal.decreases-loop-rest
decreases-loop-rest g l = length l.rest
