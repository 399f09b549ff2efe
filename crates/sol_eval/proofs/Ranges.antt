-- Types so large that they have every number of 128 bits on their side of 0.
use Rattle.std.proofs.Common.{◌≡◌, refl, ℕ, ◌-◌, ◌*◌, ◌^◌, ◌<◌, ◌≤◌, pos, neg_ℤ, true, false, not, arith}
use Rattle.std.proofs.Math.Pow.{pow_mono}
use Rattle.std.proofs.lemmas.Bool.{and_from}
use Rattle.std.proofs.lemmas.Int.{ints}
use Rattle.std.specs.Int.{w128}
use Rattle.std.specs.Prelude.{FitsSigned}
use lib.IntN.{ℤ}
use lib.Signed.{lt_z}
use Rattle.chc_nums.specs.declared.Ty.TheVariants as ty
use Rattle.sol_core.specs.Values.{in_range}

not-above : (n : ℕ) (z : ℤ) → 2 ^ 127 ≤ n → FitsSigned w128 z → not (lt_z (pos (n - 1)) z) ≡ true
not-above n z h f = let e : lt_z (pos (n - 1)) z ≡ false = grind (arith, ints) in rw e refl

not-below : (n : ℕ) (z : ℤ) → 2 ^ 127 ≤ n → FitsSigned w128 z → not (lt_z z (neg_ℤ (pos n))) ≡ true
not-below n z h f = let e : lt_z z (neg_ℤ (pos n)) ≡ false = grind (arith, ints) in rw e refl

pub unsigned-large : (s : ℕ) (z : ℤ) → 15 < s → FitsSigned w128 z → lt_z z (pos 0) ≡ false → in_range (ty.Uint s) z ≡ true
unsigned-large s z h f p =
    let large : 2 ^ 127 ≤ 2 ^ (8 * s) = pow_mono {i = 127} (omega arith) in
    and_from (not (lt_z z (pos 0))) (not (lt_z (pos (2 ^ (8 * s) - 1)) z)) (rw p refl) (not-above (2 ^ (8 * s)) z large f)

pub signed-large : (s : ℕ) (z : ℤ) → 15 < s → FitsSigned w128 z → in_range (ty.Int s) z ≡ true
signed-large s z h f =
    let large : 2 ^ 127 ≤ 2 ^ (8 * s - 1) = pow_mono {i = 127} (omega arith) in
    and_from (not (lt_z z (neg_ℤ (pos (2 ^ (8 * s - 1)))))) (not (lt_z (pos (2 ^ (8 * s - 1) - 1)) z)) (not-below (2 ^ (8 * s - 1)) z large f) (not-above (2 ^ (8 * s - 1)) z large f)

pub ruleset ranges = (unsigned-large, signed-large)
