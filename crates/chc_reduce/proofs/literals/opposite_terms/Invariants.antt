use Rattle.std.proofs.Common.{◌≡◌, ◌++◌, ◌-◌, ◌^◌, length}
use Rattle.chc_reduce.specs.Literals.{opposite_terms, AreWithin}
use Rattle.chc_reduce.proofs.literals.opposite_terms.Given as goal

abbrev pub invariant-loop-rest : goal.invariant-loop-rest
invariant-loop-rest l = (l.made ++ opposite_terms l.rest ≡ opposite_terms l.fn.terms) × AreWithin (2 ^ 64 - 1) l.rest

abbrev pub decreases-loop-rest : goal.decreases-loop-rest
decreases-loop-rest l = length l.rest
