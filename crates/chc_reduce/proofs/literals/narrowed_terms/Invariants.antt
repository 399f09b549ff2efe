use Rattle.std.proofs.Common.{◌≡◌, length}
use Rattle.chc_reduce.specs.Literals.{narrowed_terms}
use Rattle.chc_reduce.proofs.Terms.{after}
use Rattle.chc_reduce.proofs.literals.narrowed_terms.Given as goal

abbrev pub invariant-loop-rest : goal.invariant-loop-rest
invariant-loop-rest l = after l.made (narrowed_terms l.rest) ≡ narrowed_terms l.fn.terms

abbrev pub decreases-loop-rest : goal.decreases-loop-rest
decreases-loop-rest l = length l.rest
