use Rattle.std.proofs.Common.{◌≡◌, ◌+◌, length}
use Rattle.sol_lexer.specs.Reading.{close_of, further}
use Rattle.sol_lexer.proofs.cut.comment_close.Given as goal

abbrev pub invariant-loop-rest : goal.invariant-loop-rest
invariant-loop-rest l = (further l.len (close_of l.rest) ≡ close_of l.fn.text) × (l.len + length l.rest ≡ length l.fn.text)

abbrev pub decreases-loop-rest : goal.decreases-loop-rest
decreases-loop-rest l = length l.rest
