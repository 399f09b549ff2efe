use Rattle.std.proofs.Common.{◌≡◌, ◌++◌, map, drop}
use Rattle.chc_reduce.specs.Reduced.{refuted}
use Rattle.chc_reduce.proofs.reduction.add_goal.Given as goal

abbrev pub invariant-loop-literal : goal.invariant-loop-literal
invariant-loop-literal l = l.parts ++ map (refuted l.head) (drop l.literal-index l.literals) ≡ l.fn.parts ++ map (refuted l.head) l.literals
