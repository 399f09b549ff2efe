use Rattle.std.proofs.Common.{◌≡◌, ◌≤◌, ◌+◌, length}
use Rattle.sol_script.specs.Pieces.{ended, tail}
use Rattle.sol_script.specs.Reading.{read_lines}
use Rattle.sol_script.proofs.reader.read_lines.Given as goal

abbrev pub invariant-loop-line : goal.invariant-loop-line
invariant-loop-line l = (read_lines l.p (ended 10 l.fn.text) (tail 10 l.fn.text) l.fn.first l.fn.reading ≡ read_lines l.p (ended 10 l.rest) (tail 10 l.rest) l.number l.reading) × (l.number + length l.rest ≤ l.fn.first + length l.fn.text)

abbrev pub decreases-loop-line : goal.decreases-loop-line
decreases-loop-line l = length l.rest
