-- Powers: of 0, 1 and -1, and that a power is too large as soon as a part of it is.
use Rattle.std.proofs.Common.{◌≡◌, ℕ, zero, suc, ◌+◌, ◌-◌, ◌*◌, ◌%◌, ◌<◌, ◌≤◌, ◌^◌, ◌*ℤ◌, ◌≤ℤ◌, ◌<ℤ◌, pos, Option, Some, None, refl, sym, ap, ◌∙◌, arith}
use Rattle.std.specs.Prelude.{unsigned_abs}
use Rattle.std.proofs.lemmas.Bool.Decides.{nat_tests}
use Rattle.std.proofs.lemmas.Int.{ints, unsigned_abs-mul}
use Rattle.std.proofs.lemmas.Nat.{mul-le}
use Rattle.std.proofs.Math.IntN.{*ℤ-one, zero-*ℤ}
use lib.IntN.{ℤ, negsuc, one}
use Rattle.chc_nums.proofs.Ring.{mul-assoc}
use Rattle.sol_judged.specs.LiteralNumbers.{whole, power_of, exact_power}

-- ---- of 0, 1 and -1

power-zero : (n : ℕ) → 0 < n → power_of (pos 0) n ≡ pos 0
unfolding power_of
power-zero zero h = absurd (omega arith)
power-zero (suc n) h = zero-*ℤ (power_of (pos 0) n)

power-one : (n : ℕ) → power_of (pos 1) n ≡ pos 1
unfolding power_of
power-one zero = refl
power-one (suc n) = rw (power-one n) refl

mutual
  unfolding power_of

  power-even : (n : ℕ) → n % 2 ≡ 0 → power_of (negsuc 0) n ≡ pos 1
  power-even zero h = refl
  power-even (suc n) h = rw (power-odd n (omega arith)) refl

  power-odd : (n : ℕ) → n % 2 ≡ 1 → power_of (negsuc 0) n ≡ negsuc 0
  power-odd zero h = absurd (omega arith)
  power-odd (suc n) h = rw (power-even n (omega arith)) refl

pub small-none : (a : ℤ) (n : ℕ) → n ≡ 0 → power_of a n ≡ pos 1
unfolding power_of
small-none a zero h = refl
small-none a (suc n) h = absurd (omega arith)

pub small-even : (a : ℤ) (n : ℕ) → a ≡ negsuc 0 → n % 2 ≡ 0 → power_of a n ≡ pos 1
small-even a n e h = rw e (power-even n h)

pub small-same : (a : ℤ) (n : ℕ) → unsigned_abs a < 2 → 0 < n → (a ≡ negsuc 0 → n % 2 ≡ 1) → power_of a n ≡ a
small-same (pos zero) n h k o = power-zero n k
small-same (pos (suc zero)) n h k o = power-one n
small-same (pos (suc (suc m))) n h k o = absurd (omega arith)
small-same (negsuc zero) n h k o = power-odd n (o refl)
small-same (negsuc (suc m)) n h k o = absurd (omega arith)

pub ruleset small = (small-none, small-even, small-same)

-- ---- of others

abs-positive : (a : ℤ) (n : ℕ) → 0 < unsigned_abs a → 0 < unsigned_abs (power_of a n)
unfolding power_of
abs-positive a zero h = omega arith
abs-positive a (suc n) h =
    let k = abs-positive a n h in
    let m : 1 * 1 ≤ unsigned_abs a * unsigned_abs (power_of a n) = mul-le 1 1 (unsigned_abs a) (unsigned_abs (power_of a n)) (omega arith) (omega arith) in
    rw (unsigned_abs-mul a (power_of a n)) (omega (arith, m))

pub whole-value : (z s : ℤ) → whole z ≡ Some s → s ≡ z
unfolding whole
whole-value z s e = grind (arith, nat_tests)

large : (z : ℤ) → whole z ≡ None → 2 ^ 127 ≤ unsigned_abs z
unfolding whole
large z e = grind (arith, nat_tests)

whole-large : (z : ℤ) → 2 ^ 127 ≤ unsigned_abs z → whole z ≡ None
unfolding whole
whole-large z h = grind (arith, nat_tests)

-- what is too large stays so
too-large : (z p : ℤ) → whole z ≡ None → 0 < unsigned_abs p → whole (z *ℤ p) ≡ None
too-large z p e h =
    let b = large z e in
    let m : 2 ^ 127 * 1 ≤ unsigned_abs z * unsigned_abs p = mul-le (2 ^ 127) 1 (unsigned_abs z) (unsigned_abs p) b (omega arith) in
    whole-large (z *ℤ p) (rw (unsigned_abs-mul z p) (omega (arith, m)))

one-more : (z a : ℤ) (n m : ℕ) → n ≡ m + 1 → z *ℤ power_of a n ≡ (z *ℤ a) *ℤ power_of a m
unfolding power_of
one-more z a zero m h = absurd (omega arith)
one-more z a (suc n) m h = let e : n ≡ m = omega arith in rw e (mul-assoc z a (power_of a m))

pub power-stops : (z a : ℤ) (n : ℕ) (t : Option ℤ) → 0 < unsigned_abs a → 0 < n → whole (z *ℤ power_of a n) ≡ t → whole (z *ℤ a) ≡ None → t ≡ None
power-stops z a n t h k e w = sym e ∙ ap whole (one-more z a n (n - 1) (omega arith)) ∙ too-large (z *ℤ a) (power_of a (n - 1)) w (abs-positive a (n - 1) h)

pub power-goes : (z a s : ℤ) (n m : ℕ) → n ≡ m + 1 → whole (z *ℤ a) ≡ Some s → whole (s *ℤ power_of a m) ≡ whole (z *ℤ power_of a n)
power-goes z a s n m h w = let e = whole-value (z *ℤ a) s w in rw e (ap whole (sym (one-more z a n m h)))

pub power-ends : (z a : ℤ) (n : ℕ) → n ≡ 0 → whole (z *ℤ power_of a n) ≡ whole z
unfolding power_of one
power-ends z a zero h = ap whole (*ℤ-one z)
power-ends z a (suc n) h = absurd (omega arith)

one-times : (z : ℤ) → pos 1 *ℤ z ≡ z
one-times z = omega (arith, ints)

pub power-begins : (a : ℤ) (n : ℕ) → whole (pos 1 *ℤ power_of a n) ≡ whole (power_of a n)
power-begins a n = ap whole (one-times (power_of a n))

pub ruleset powers = (power-stops, power-goes, power-ends, power-begins)

-- ---- exponents

pub exponent-negative : (a n : ℤ) → n <ℤ pos 0 → exact_power a n ≡ None
unfolding exact_power
exponent-negative a (pos n) h = absurd (omega (arith, ints))
exponent-negative a (negsuc n) h = refl

pub exponent-natural : (a n : ℤ) → pos 0 ≤ℤ n → exact_power a n ≡ whole (power_of a (unsigned_abs n))
unfolding exact_power
exponent-natural a (pos n) h = refl
exponent-natural a (negsuc n) h = absurd (omega (arith, ints))

pub ruleset exponents = (exponent-negative, exponent-natural)
