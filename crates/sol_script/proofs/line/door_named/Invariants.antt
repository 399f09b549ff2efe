use Rattle.std.proofs.Common.{◌≡◌, ◌+◌, length}
use Rattle.sol_script.specs.Lines.{first_named}
use Rattle.sol_script.proofs.line.door_named.Given as goal

abbrev pub invariant-loop-rest : goal.invariant-loop-rest
invariant-loop-rest l = (first_named l.p 0 l.fn.p.doors l.name ≡ first_named l.p l.at l.rest l.name) × (l.at + length l.rest ≡ length l.fn.p.doors)

abbrev pub decreases-loop-rest : goal.decreases-loop-rest
decreases-loop-rest l = length l.rest
