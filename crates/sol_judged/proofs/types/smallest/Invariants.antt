use Rattle.std.proofs.Common.{◌≡◌, ◌-◌, pos}
use lib.Signed.{lt_z}
use Rattle.sol_judged.specs.LiteralTypes.{smallest_of}
use Rattle.sol_judged.proofs.types.smallest.Given as goal

abbrev pub invariant-loop-n : goal.invariant-loop-n
invariant-loop-n l = smallest_of l.signed (13 - l.n) l.n l.z ≡ smallest_of (lt_z l.z (pos 0)) 12 1 l.z
