use Rattle.std.proofs.Common.{◌≡◌, ◌+◌, ◌<◌, ℕ, length, slice_index}
use Rattle.sol_names.specs.Tails.{Below, times}
use Rattle.sol_names.proofs.merge.count_all.Given as goal

abbrev pub invariant-loop-rest : goal.invariant-loop-rest
invariant-loop-rest l = Below (length l.counts) l.rest × ((u : ℕ) → u < length l.counts → slice_index l.counts u + times u l.rest ≡ slice_index l.fn.counts u + times u l.numbers)

abbrev pub decreases-loop-rest : goal.decreases-loop-rest
decreases-loop-rest l = length l.rest
