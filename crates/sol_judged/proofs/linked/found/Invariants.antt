use Rattle.std.proofs.Common.{◌≡◌, ◌≤◌, length, map}
use Rattle.sol_judged.specs.Names.{last_member}
use Rattle.sol_judged.specs.Listed.{listed}
use Rattle.sol_judged.specs.Linked.{last_below}
use Rattle.sol_judged.proofs.Linking.{last_from}
use Rattle.sol_judged.proofs.linked.found.Given as goal

abbrev pub invariant-loop-at : goal.invariant-loop-at
invariant-loop-at l = (l.at ≡ last_below l.entries l.name l.below) × (last_from l.sought l.fn.units l.entries l.name l.below ≡ last_member l.sought l.fn.units (map listed l.entries) l.name) × (l.below ≤ length l.entries)

abbrev pub decreases-loop-at : goal.decreases-loop-at
decreases-loop-at l = l.below
