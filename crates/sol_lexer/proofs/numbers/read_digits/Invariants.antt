use Rattle.std.proofs.Common.{◌≡◌, ◌+◌, length}
use Rattle.sol_lexer.specs.Reading.{digits_of, digits_on}
use Rattle.sol_lexer.proofs.numbers.read_digits.Given as goal

abbrev pub invariant-loop-rest : goal.invariant-loop-rest
invariant-loop-rest l =
    let d = digits_on l.hex l.wanted l.value l.rest in
    (record d { len = l.len + d.len } ≡ digits_of l.fn.hex l.fn.text) × (l.len + length l.rest ≡ length l.fn.text)

abbrev pub decreases-loop-rest : goal.decreases-loop-rest
decreases-loop-rest l = length l.rest
