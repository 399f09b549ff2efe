use Rattle.std.proofs.Common.{◌≡◌, length}
use Rattle.sol_lexer.specs.Bytes.{begins_with}
use Rattle.sol_lexer.proofs.bytes.begins_with.Given as goal

abbrev pub invariant-loop-left : goal.invariant-loop-left
invariant-loop-left l = begins_with l.left l.rest ≡ begins_with l.fn.front l.fn.text

abbrev pub decreases-loop-left : goal.decreases-loop-left
decreases-loop-left l = length l.left
