use Rattle.std.proofs.Common.{◌≡◌, length}
use Rattle.chc_form.specs.WellMade.{are_key_terms}
use Rattle.chc_form.proofs.places.are_key_terms.Given as goal

abbrev pub invariant-loop-ts : goal.invariant-loop-ts
invariant-loop-ts l = are_key_terms l.fn.places l.fn.keys l.ts l.ks ≡ are_key_terms l.fn.places l.fn.keys l.fn.types l.fn.at

abbrev pub decreases-loop-ts : goal.decreases-loop-ts
decreases-loop-ts l = length l.ts
