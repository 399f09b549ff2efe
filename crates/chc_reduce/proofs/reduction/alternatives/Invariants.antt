use Rattle.std.proofs.Common.{◌≡◌, ◌++◌, map, drop}
use Rattle.chc_reduce.specs.Reduced.{granted}
use Rattle.chc_reduce.proofs.reduction.alternatives.Given as goal

abbrev pub invariant-loop-literal : goal.invariant-loop-literal
invariant-loop-literal l = l.all ++ map (granted l.atom) (drop l.literal-index l.literals) ≡ map (granted l.atom) l.literals
