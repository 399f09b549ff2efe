use Rattle.std.proofs.Common.{◌≡◌, ◌++◌, drop}
use Rattle.chc_reduce.specs.Literals.{put_term}
use Rattle.chc_reduce.proofs.literals.finish.Given as goal

abbrev pub invariant-loop-term : goal.invariant-loop-term
invariant-loop-term l = l.made ++ drop l.term-index l.rest ≡ l.fn.made ++ put_term l.x l.fn.a l.rest
