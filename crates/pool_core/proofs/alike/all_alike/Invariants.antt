use Rattle.std.proofs.Common.{◌≡◌, ◌↔◌, length}
use Rattle.pool_core.proofs.alike.all_alike.Given as goal

abbrev pub invariant-loop-xs : goal.invariant-loop-xs
invariant-loop-xs g l = (l.fn.a ≡ l.fn.b) ↔ (l.xs ≡ l.ys)

abbrev pub decreases-loop-xs : goal.decreases-loop-xs
decreases-loop-xs g l = length l.xs
