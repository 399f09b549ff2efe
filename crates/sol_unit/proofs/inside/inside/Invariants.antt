use Rattle.std.proofs.Common.{◌≡◌, ◌<◌, ◌||◌, ℕ, length, drop}
use Rattle.sol_judged.specs.Names.{has}
use Rattle.sol_unit.specs.Marks.{is_marked}
use Rattle.sol_unit.proofs.inside.inside.Given as goal

abbrev pub invariant-loop-place : goal.invariant-loop-place
invariant-loop-place l = record {
  as_many : length l.marks.items ≡ l.count;
  marked : (u : ℕ) → u < l.count → (is_marked l.marks.items u || has (drop l.place-index l.lineage) u) ≡ has l.lineage u;
}
