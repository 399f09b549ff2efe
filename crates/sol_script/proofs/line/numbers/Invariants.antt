use Rattle.std.proofs.Common.{◌≡◌, length}
use Rattle.std.specs.Option.{option_copied}
use Rattle.sol_script.specs.Lines.{numbers}
use Rattle.sol_script.specs.Cuts.{pieces_of}
use Rattle.sol_script.proofs.Several.{onto, size_left}
use Rattle.sol_script.proofs.line.numbers.Given as goal

abbrev pub invariant-loop-rest : goal.invariant-loop-rest
invariant-loop-rest l = numbers (pieces_of (option_copied l.fn.words)) ≡ onto l.all (numbers (pieces_of (option_copied l.rest)))

abbrev pub decreases-loop-rest : goal.decreases-loop-rest
decreases-loop-rest l = size_left (option_copied l.rest)
