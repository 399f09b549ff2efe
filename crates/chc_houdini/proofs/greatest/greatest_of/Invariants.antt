use Rattle.std.proofs.Common.{◌+◌, ◌≤◌, length}
use Rattle.chc_houdini.specs.Drops.{left_in}
use Rattle.chc_houdini.proofs.Below.{RightBelow}
use Rattle.chc_houdini.proofs.greatest.greatest_of.Given as goal

abbrev pub invariant-rounds : goal.invariant-rounds
invariant-rounds l = record {
  right : RightBelow l.s l.limits l.fn.from l.drops l.rounds;
  count : l.rounds + length (left_in l.drops l.fn.from l.rounds) ≤ length l.fn.from;
}

abbrev pub decreases-rounds : goal.decreases-rounds
decreases-rounds l = length (left_in l.drops l.fn.from l.rounds)
