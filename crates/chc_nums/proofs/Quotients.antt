-- Quotients and remainders.
use Rattle.std.proofs.Common.{◌≢◌, zero, ◌-◌, ◌*◌, ◌∙◌, ◌≡◌, ℕ, ◌<◌, ◌≤◌, ◌^◌, ◌%◌, suc, pos, ◌≤ℤ◌, ◌+ℤ◌, ◌*ℤ◌, neg_ℤ, Option, Some, None, true, false, arith, refl, ap}
use Rattle.std.proofs.Math.Nat.{div-le_self, mod-le, div-one}
use Rattle.std.proofs.Math.Pow.{pow_mono}
use lib.IntN.{ℤ, negsuc}
use Rattle.std.specs.Ordering.{int_eq}
use Rattle.std.specs.Prelude.{FitsSigned, int_div, int_rem, unsigned_abs}
use Rattle.std.specs.Int.{w128, CanDivide, cast_unsigned}
use Rattle.std.specs.Option.{SomeIff}
use Rattle.std.proofs.lemmas.Int.{ints, quot-rem, rem_below}
use Rattle.chc_nums.specs.Wide.{fits_128, divided}
use Rattle.chc_nums.specs.declared.typed.Ty.{Ty}
use Rattle.chc_nums.specs.declared.typed.Num.TheVariants as num
use Rattle.chc_nums.specs.declared.typed.Ty.TheVariants as ty
use Rattle.chc_nums.specs.declared.typed.Op.TheVariants as op
use Rattle.chc_nums.specs.Types.{IsType, IsSize, least, placed, by, judged, Truncated}
use Rattle.chc_nums.proofs.Fits.{fits_from}
use Rattle.chc_nums.proofs.Ranges.{least-bound, greatest-bound, greatest-nonneg}

fits-true : (z : ℤ) → FitsSigned w128 z → fits_128 z ≡ true
unfolding fits_128
fits-true z f = grind (arith, ints)

nonzero : (b : ℤ) → FitsSigned w128 b → int_eq b (pos 0) ≡ false → 0 < cast_unsigned w128 b
nonzero (pos n) f e = grind (arith, ints)
nonzero (negsuc n) f e = let h : n < 2 ^ 127 = f.sfits in omega arith

nonzero-abs : (b : ℤ) → int_eq b (pos 0) ≡ false → 0 < unsigned_abs b
nonzero-abs (pos n) e = grind (arith, ints)
nonzero-abs (negsuc n) e = omega arith

zero-bits : (b : ℤ) → 0 < cast_unsigned w128 b → int_eq b (pos 0) ≡ false
zero-bits (pos n) h = grind (arith, ints)
zero-bits (negsuc n) h = refl

-- what std's checked division answers
pub divided-of : (r : Option ℤ) (a b x : ℤ) → FitsSigned w128 b → SomeIff r (CanDivide w128 a b) x → r ≡ divided a b x
unfolding divided
divided-of None a b x f h = grind (arith, nonzero, fits_from)
divided-of (Some y) a b x f h = rw (zero-bits b h.0.0, fits-true (int_div a b) h.0.1) (ap Some h.1)

-- a quotient and a remainder are no larger than what is divided
pub quotient-small : (a b : ℤ) (n : ℕ) → neg_ℤ (pos n) ≤ℤ a → a ≤ℤ pos n → (neg_ℤ (pos n) ≤ℤ int_div a b) × (int_div a b ≤ℤ pos n)
quotient-small (pos a) (pos b) n p q = (omega (arith, ints, div-le_self a b), omega (arith, ints, div-le_self a b))
quotient-small (pos a) (negsuc b) n p q = (omega (arith, ints, div-le_self a (suc b)), omega (arith, ints, div-le_self a (suc b)))
quotient-small (negsuc a) (pos b) n p q = (omega (arith, ints, div-le_self (suc a) b), omega (arith, ints, div-le_self (suc a) b))
quotient-small (negsuc a) (negsuc b) n p q = (omega (arith, ints, div-le_self (suc a) (suc b)), omega (arith, ints, div-le_self (suc a) (suc b)))

-- where a number that is not 0 divides another and the quotient leaves 128 bits, it lies above them and nothing remains
big-quotient : (a b : ℤ) → FitsSigned w128 a → fits_128 (int_div a b) ≡ false → int_div a b ≡ pos (2 ^ 127)
unfolding fits_128
big-quotient a b f e =
    let q = quotient-small a b (2 ^ 127) (omega (arith, ints)) (omega (arith, ints)) in
    grind (arith, ints)

divided-large : (a b x : ℤ) → divided a b x ≡ None → int_eq b (pos 0) ≡ false → fits_128 (int_div a b) ≡ false
unfolding divided
divided-large a b x e n = grind arith

pub divided-over : (t : Ty) (a b x : ℤ) → IsType t → FitsSigned w128 a → divided a b x ≡ None → int_eq b (pos 0) ≡ false → num.Over ≡ placed t (int_div a b)
unfolding placed
divided-over t a b x h f e n =
    let q = big-quotient a b f (divided-large a b x e n) in
    grind (arith, ints, greatest-bound t h, least-bound t h)

no-rest : (a b r : ℤ) → FitsSigned w128 a → (pos (2 ^ 127) *ℤ b) +ℤ r ≡ a → unsigned_abs r < unsigned_abs b → r ≡ pos 0
no-rest a (pos b) r f s h = omega (arith, ints)
no-rest a (negsuc b) r f s h = omega (arith, ints)

pub divided-rest : (a b x : ℤ) → FitsSigned w128 a → divided a b x ≡ None → int_eq b (pos 0) ≡ false → int_rem a b ≡ pos 0
divided-rest a b x f e n =
    let q : int_div a b ≡ pos (2 ^ 127) = big-quotient a b f (divided-large a b x e n) in
    let s : (pos (2 ^ 127) *ℤ b) +ℤ int_rem a b ≡ a = rw q at (quot-rem a b) in
    no-rest a b (int_rem a b) f s (rem_below a b (nonzero-abs b n))

-- 0 is a number of each type
pub placed-zero : (t : Ty) → IsType t → num.Value (pos 0) ≡ placed t (pos 0)
unfolding placed
placed-zero t h = grind (arith, ints, least-bound t h, greatest-nonneg t h)

pub divided-some : (t : Ty) (a b x y : ℤ) → divided a b x ≡ Some y → placed t y ≡ by t b x
unfolding divided
divided-some t a b x y e = grind arith

pub ruleset divisions = (divided-of)

-- ---- how they are rounded

some-abs : (b : ℤ) → (b ≡ pos 0 → ⊥) → 0 < unsigned_abs b
some-abs (pos zero) h = absurd (h refl)
some-abs (pos (suc n)) h = omega arith
some-abs (negsuc n) h = omega arith

rest-up : (a b : ℤ) → pos 0 ≤ℤ a → pos 0 ≤ℤ int_rem a b
rest-up (pos a) b h = omega (arith, ints)
rest-up (negsuc a) b h = absurd h.le

rest-down : (a b : ℤ) → a ≤ℤ pos 0 → int_rem a b ≤ℤ pos 0
rest-down (pos a) b h =
    let z : a ≡ 0 = omega (arith, ints) in
    let m : a % unsigned_abs b ≤ a = mod-le a (unsigned_abs b) in
    omega (arith, ints)
rest-down (negsuc a) b h = omega (arith, ints)

pub truncated-law : (a b : ℤ) → b ≢ pos 0 → Truncated a b (int_div a b) (int_rem a b)
truncated-law a b h = (quot-rem a b, rem_below a b (some-abs b h), rest-up a b, rest-down a b)

-- the least value by -1 is one more than the greatest
pub least-opposite : (s : ℕ) → IsSize s → placed (ty.Int s) (neg_ℤ (least (ty.Int s))) ≡ num.Over
unfolding placed
least-opposite s h = let p : 1 ≤ 2 ^ (8 * s - 1) = pow_mono {i = 0} {j = 8 * s - 1} (omega arith) in grind (arith, ints)

quotient-opposite : (n : ℕ) → int_div (neg_ℤ (pos n)) (negsuc 0) ≡ neg_ℤ (neg_ℤ (pos n))
quotient-opposite zero = refl
quotient-opposite (suc n) = omega (arith, ints, div-one (suc n))

pub least-quotient : (s : ℕ) → IsSize s → judged op.Div (ty.Int s) (least (ty.Int s)) (negsuc 0) ≡ num.Over
least-quotient s h = ap (placed (ty.Int s)) (quotient-opposite (2 ^ (8 * s - 1))) ∙ least-opposite s h

pub ruleset laws = (truncated-law, least-opposite, least-quotient)
