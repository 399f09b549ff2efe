use Rattle.std.proofs.Common.{◌≡◌, ◌+◌, length}
use Rattle.sol_lexer.specs.Reading.{run, in_class}
use Rattle.sol_lexer.proofs.bytes.run.Given as goal

abbrev pub invariant-loop-rest : goal.invariant-loop-rest
invariant-loop-rest l = (l.len + run (in_class l.class) l.rest ≡ run (in_class l.fn.class) l.fn.text) × (l.len + length l.rest ≡ length l.fn.text)

abbrev pub decreases-loop-rest : goal.decreases-loop-rest
decreases-loop-rest l = length l.rest
