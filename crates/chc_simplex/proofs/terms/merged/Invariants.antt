use Rattle.std.proofs.Common.{◌≡◌, ◌+◌, length}
use Rattle.chc_simplex.specs.Terms.{others, merged, merged_onto}
use Rattle.chc_simplex.proofs.terms.merged.Given as goal

abbrev pub invariant-loop-v : goal.invariant-loop-v
invariant-loop-v l = merged_onto l.made l.fn.factors.left l.fn.factors.right (others l.skipped l.left) l.right ≡ merged l.fn.factors.left l.fn.factors.right (others l.skipped l.fn.ts) l.fn.us

abbrev pub decreases-loop-v : goal.decreases-loop-v
decreases-loop-v l = length l.left + length l.right
