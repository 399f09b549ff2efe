use Rattle.std.proofs.Common.{◌≡◌, ◌++◌, drop}
use Rattle.chc_reduce.specs.Reduced.{instances_at}
use Rattle.chc_reduce.proofs.reduction.add_instances_at.Given as goal

abbrev pub invariant-loop-lemma : goal.invariant-loop-lemma
invariant-loop-lemma l = l.parts ++ instances_at l.atom (drop l.lemma-index l.lemmas) ≡ l.fn.parts ++ instances_at l.atom l.lemmas
