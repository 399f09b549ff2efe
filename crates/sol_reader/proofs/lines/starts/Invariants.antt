use Rattle.std.proofs.Common.{◌≡◌, ◌++◌, drop}
use Rattle.sol_reader.specs.Starts.{starts_from}
use Rattle.sol_reader.proofs.lines.starts.Given as goal

abbrev pub invariant-loop-byte : goal.invariant-loop-byte
invariant-loop-byte l = (l.starts ++ starts_from l.at (drop l.byte-index l.text) ≡ starts_from 0 l.text) × (l.at ≡ l.byte-index)
