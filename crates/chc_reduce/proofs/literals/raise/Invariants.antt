use Rattle.std.proofs.Common.{◌≡◌, ◌++◌, ◌-◌, ◌^◌, length}
use Rattle.chc_reduce.specs.Literals.{raised, AreWithin}
use Rattle.chc_reduce.proofs.literals.raise.Given as goal

abbrev pub invariant-loop-rest : goal.invariant-loop-rest
invariant-loop-rest l = (l.made ++ raised l.x l.a l.rest ≡ raised l.x l.a l.fn.terms) × AreWithin (2 ^ 64 - 2) l.rest

abbrev pub decreases-loop-rest : goal.decreases-loop-rest
decreases-loop-rest l = length l.rest
