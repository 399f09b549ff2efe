-- How large the numbers of a type are.
use Rattle.std.proofs.Common.{◌≡◌, ◌-◌, ◌*◌, ◌^◌, ◌≤◌, pos, ◌+ℤ◌, ◌-ℤ◌, ◌*ℤ◌, ◌≤ℤ◌, ◌<ℤ◌, neg_ℤ, arith, None, true, false}
use lib.IntN.{ℤ}
use lib.Signed.{lt_z}
use Rattle.std.proofs.lemmas.Int.{ints}
use Rattle.std.proofs.Math.Pow.{pow_mono}
use Rattle.chc_nums.specs.declared.typed.Ty.{Ty}
use Rattle.chc_nums.specs.declared.typed.Ty.TheVariants as ty
use Rattle.chc_nums.specs.Types.{IsType, least, greatest, placed}
use Rattle.chc_nums.specs.Wide.{in_128, fits_128}
use Rattle.std.specs.Prelude.{FitsSigned}
use Rattle.std.specs.Int.{w128}
use Rattle.chc_nums.proofs.Fits.{in_128-value}
use Rattle.chc_nums.specs.declared.typed.Num.TheVariants as num

pub least-bound : (t : Ty) → IsType t → (neg_ℤ (pos (2 ^ 95)) ≤ℤ least t) × (least t ≤ℤ pos 0)
least-bound ty.Bool h = (omega (arith, ints), omega (arith, ints))
least-bound (ty.Uint s) h = (omega (arith, ints), omega (arith, ints))
least-bound (ty.Int s) h = let p : 2 ^ (8 * s - 1) ≤ 2 ^ 95 = pow_mono {j = 95} (omega arith) in (omega (arith, ints), omega (arith, ints))
least-bound ty.Addr h = (omega (arith, ints), omega (arith, ints))

pub greatest-bound : (t : Ty) → IsType t → greatest t <ℤ pos (2 ^ 96)
greatest-bound ty.Bool h = omega (arith, ints)
greatest-bound (ty.Uint s) h = let p : 2 ^ (8 * s) ≤ 2 ^ 96 = pow_mono {j = 96} (omega arith) in omega (arith, ints)
greatest-bound (ty.Int s) h = let p : 2 ^ (8 * s - 1) ≤ 2 ^ 95 = pow_mono {j = 95} (omega arith) in omega (arith, ints)
greatest-bound ty.Addr h = omega (arith, ints)

pub greatest-nonneg : (t : Ty) → IsType t → pos 0 ≤ℤ greatest t
greatest-nonneg ty.Bool h = omega (arith, ints)
greatest-nonneg (ty.Uint s) h = omega (arith, ints)
greatest-nonneg (ty.Int s) h = omega (arith, ints)
greatest-nonneg ty.Addr h = omega (arith, ints)

-- factors of one sign have a product that is not negative, and others one that is not positive
pub like-product : (a b : ℤ) → lt_z a (pos 0) ≡ lt_z b (pos 0) → pos 0 ≤ℤ (a *ℤ b)
like-product a b e = grind (arith, ints)

pub unlike-product : (a b : ℤ) → (lt_z a (pos 0) ≡ lt_z b (pos 0) → ⊥) → (a *ℤ b) ≤ℤ pos 0
unlike-product a b e = grind (arith, ints)

-- a number that leaves 128 bits lies beyond the type, on the side of its sign
pub far-over : (t : Ty) (z : ℤ) → IsType t → in_128 z ≡ None → pos 0 ≤ℤ z → num.Over ≡ placed t z
unfolding in_128 fits_128 placed
far-over t z h e p = grind (arith, ints, least-bound t h, greatest-bound t h)

pub far-under : (t : Ty) (z : ℤ) → IsType t → in_128 z ≡ None → z ≤ℤ pos 0 → num.Under ≡ placed t z
unfolding in_128 fits_128 placed
far-under t z h e p = grind (arith, ints, least-bound t h, greatest-bound t h)

none-above : (z : ℤ) → in_128 z ≡ None → neg_ℤ (pos (2 ^ 127)) ≤ℤ z → pos 0 ≤ℤ z
unfolding in_128 fits_128
none-above z e h = grind (arith, ints)

none-below : (z : ℤ) → in_128 z ≡ None → z <ℤ pos (2 ^ 127) → z ≤ℤ pos 0
unfolding in_128 fits_128
none-below z e h = grind (arith, ints)

-- a sum that leaves 128 bits lies on the side of its first operand, and so does a difference
pub sum-over : (t : Ty) (a b : ℤ) → IsType t → FitsSigned w128 b → in_128 (a +ℤ b) ≡ None → lt_z a (pos 0) ≡ false → num.Over ≡ placed t (a +ℤ b)
sum-over t a b h f e p = let q : pos 0 ≤ℤ (a +ℤ b) = none-above (a +ℤ b) e (grind (arith, ints)) in far-over t (a +ℤ b) h e q

pub sum-under : (t : Ty) (a b : ℤ) → IsType t → FitsSigned w128 b → in_128 (a +ℤ b) ≡ None → lt_z a (pos 0) ≡ true → num.Under ≡ placed t (a +ℤ b)
sum-under t a b h f e p = let q : (a +ℤ b) ≤ℤ pos 0 = none-below (a +ℤ b) e (grind (arith, ints)) in far-under t (a +ℤ b) h e q

pub difference-over : (t : Ty) (a b : ℤ) → IsType t → FitsSigned w128 b → in_128 (a -ℤ b) ≡ None → lt_z a (pos 0) ≡ false → num.Over ≡ placed t (a -ℤ b)
difference-over t a b h f e p = let q : pos 0 ≤ℤ (a -ℤ b) = none-above (a -ℤ b) e (grind (arith, ints)) in far-over t (a -ℤ b) h e q

pub difference-under : (t : Ty) (a b : ℤ) → IsType t → FitsSigned w128 b → in_128 (a -ℤ b) ≡ None → lt_z a (pos 0) ≡ true → num.Under ≡ placed t (a -ℤ b)
difference-under t a b h f e p = let q : (a -ℤ b) ≤ℤ pos 0 = none-below (a -ℤ b) e (grind (arith, ints)) in far-under t (a -ℤ b) h e q

pub ruleset products = (like-product, unlike-product, far-over, far-under, in_128-value)
