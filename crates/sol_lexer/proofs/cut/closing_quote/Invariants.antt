use Rattle.std.proofs.Common.{◌≡◌, ◌+◌, length}
use Rattle.sol_lexer.specs.Reading.{closing_of, closing_on, further}
use Rattle.sol_lexer.proofs.cut.closing_quote.Given as goal

abbrev pub invariant-loop-rest : goal.invariant-loop-rest
invariant-loop-rest l = (further l.len (closing_on l.quote l.escaped l.rest) ≡ closing_of l.fn.quote l.fn.text) × (l.len + length l.rest ≡ length l.fn.text)

abbrev pub decreases-loop-rest : goal.decreases-loop-rest
decreases-loop-rest l = length l.rest
