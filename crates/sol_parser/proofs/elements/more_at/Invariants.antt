use Rattle.std.proofs.Common.{◌≡◌, ◌≤◌, ◌-◌, length}
use Rattle.sol_parser.specs.Reading.{next_at, repeated_at}
use Rattle.sol_parser.proofs.elements.more_at.Given as goal

abbrev pub invariant-loop-turn : goal.invariant-loop-turn
invariant-loop-turn g l = (repeated_at (next_at g.T.Element.reader) (l._turn-end - l._turn) l.so_far l.height l.rest ≡ repeated_at (next_at g.T.Element.reader) (length l.fn.tokens) l.fn.first l.fn.first_height l.fn.tokens) × (l.height ≤ g.T.Element.most)
