use Rattle.std.proofs.Common.{◌≡◌, ◌++◌, drop}
use Rattle.sol_script.specs.Told.{text_of}
use Rattle.sol_script.proofs.text.joined.Given as goal

abbrev pub invariant-loop-line : goal.invariant-loop-line
invariant-loop-line l = l.text.items ++ text_of (drop l.line-index l.lines) ≡ text_of l.fn.lines
