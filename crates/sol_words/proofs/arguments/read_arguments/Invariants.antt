use Rattle.std.proofs.Common.{◌≡◌, false, map, length}
use Rattle.std.specs.Prelude.{string_bytes}
use Rattle.sol_words.specs.Arguments.{nothing, arguments}
use Rattle.sol_words.proofs.arguments.read_arguments.Given as goal

abbrev pub invariant-loop-rest : goal.invariant-loop-rest
invariant-loop-rest l = arguments l.said false (map string_bytes l.rest) ≡ arguments nothing false (map string_bytes l.fn.words)

abbrev pub decreases-loop-rest : goal.decreases-loop-rest
decreases-loop-rest l = length l.rest
