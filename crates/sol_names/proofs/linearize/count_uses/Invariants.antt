use Rattle.std.proofs.Common.{◌≡◌, ◌+◌, ◌<◌, ◌∷◌, [], ℕ, length, slice_index}
use Rattle.sol_names.specs.Tails.{times}
use Rattle.sol_names.specs.Known.{uses}
use Rattle.sol_names.proofs.linearize.count_uses.Given as goal

abbrev pub invariant-loop-rest : goal.invariant-loop-rest
invariant-loop-rest l = record {
  size : length l.counts.items ≡ length l.graph;
  counts : (x : ℕ) → x < length l.counts.items → slice_index l.counts.items x + uses l.graph x l.rest ≡ times x (l.unit ∷ []) + uses l.graph x l.units;
}

abbrev pub decreases-loop-rest : goal.decreases-loop-rest
decreases-loop-rest l = length l.rest
