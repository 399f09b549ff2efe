use Rattle.std.proofs.Common.{◌≡◌, length}
use Rattle.chc_form.specs.WellMade.{same_types}
use Rattle.chc_form.proofs.sorts.same_types.Given as goal

abbrev pub invariant-loop-ts : goal.invariant-loop-ts
invariant-loop-ts l = same_types l.ts l.us ≡ same_types l.fn.types l.fn.others

abbrev pub decreases-loop-ts : goal.decreases-loop-ts
decreases-loop-ts l = length l.ts
