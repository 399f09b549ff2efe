use Rattle.std.proofs.Common.{◌≡◌, take}
use Rattle.chc_encode.proofs.rules.copied_sorts.Given as goal

abbrev pub invariant-loop-sort : goal.invariant-loop-sort
invariant-loop-sort l = l.list ≡ take l.sort-index l.sorts
