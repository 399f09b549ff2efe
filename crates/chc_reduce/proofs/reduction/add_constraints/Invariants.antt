use Rattle.std.proofs.Common.{◌≡◌, ◌++◌, map, drop}
use Rattle.chc_reduce.specs.Reduced.{constraint}
use Rattle.chc_reduce.proofs.reduction.add_constraints.Given as goal

abbrev pub invariant-loop-con : goal.invariant-loop-con
invariant-loop-con l = l.parts ++ map constraint (drop l.con-index l.cons) ≡ l.fn.parts ++ map constraint l.cons
