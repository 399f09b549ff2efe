use Rattle.std.proofs.Common.{◌≡◌, ◌++◌, drop}
use Rattle.chc_reduce.specs.Reduced.{instances}
use Rattle.chc_reduce.proofs.reduction.add_instances.Given as goal

abbrev pub invariant-loop-atom : goal.invariant-loop-atom
invariant-loop-atom l = l.parts ++ instances (drop l.atom-index l.body) l.lemmas ≡ l.fn.parts ++ instances l.body l.lemmas
