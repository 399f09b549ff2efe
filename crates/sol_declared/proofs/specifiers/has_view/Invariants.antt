use Rattle.std.proofs.Common.{◌≡◌, length}
use Rattle.sol_declared.specs.Specifiers.{is_there, is_view}
use Rattle.sol_declared.proofs.specifiers.has_view.Given as goal

abbrev pub invariant-loop-rest : goal.invariant-loop-rest
invariant-loop-rest l = is_there is_view l.fn.marks ≡ is_there is_view l.rest

abbrev pub decreases-loop-rest : goal.decreases-loop-rest
decreases-loop-rest l = length l.rest
