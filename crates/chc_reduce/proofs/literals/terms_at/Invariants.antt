use Rattle.std.proofs.Common.{◌≡◌, ◌-◌, ◌≤◌, length, []}
use Rattle.chc_reduce.specs.Literals.{terms_onto, AreWithin}
use Rattle.chc_reduce.proofs.literals.terms_at.Given as goal

abbrev pub invariant-loop-rest : goal.invariant-loop-rest
invariant-loop-rest l =
    (terms_onto l.fn.atom l.made l.rest ≡ terms_onto l.fn.atom [] l.fn.terms)
    × AreWithin (length l.fn.terms - length l.rest) l.made
    × (length l.rest ≤ length l.fn.terms)

abbrev pub decreases-loop-rest : goal.decreases-loop-rest
decreases-loop-rest l = length l.rest
