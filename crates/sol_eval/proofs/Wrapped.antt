-- Numbers that wrap at 128 bits, taken into a type of no more bits.
use Rattle.std.proofs.Common.{◌≡◌, ◌∙◌, sym, ap, refl, ℕ, zero, suc, ◌+◌, ◌-◌, ◌*◌, ◌/◌, ◌^◌, ◌%◌, ◌<◌, ◌≤◌, pos, ◌+ℤ◌, ◌-ℤ◌, ◌≤ℤ◌, neg_ℤ, inl, inr, arith, true, false}
use Rattle.std.proofs.Math.Nat.{add-mul, mod-lt, mod-eq_of_lt, div-lt_iff_lt-mul}
use Rattle.std.proofs.Math.Pow.{mod-mod-pow}
use Rattle.std.proofs.lemmas.Nat.{pow_pos, pow-add, shr_split, mod-mul-add}
use Rattle.std.proofs.lemmas.Bool.{cases_lt}
use Rattle.std.proofs.lemmas.Int.{ints, int_wrap-add_left, to_z_pos}
use Rattle.std.proofs.Math.Facts.{to_z-neg}
use Rattle.std.specs.Int.{w128, int_wrap, cast_signed, cast_unsigned, int_wrapping_div}
use Rattle.std.specs.Prelude.{FitsSigned, int_div}
use Rattle.std.specs.Ordering.{int_eq}
use lib.IntN.{ℤ, negsuc}
use Rattle.chc_nums.specs.declared.Ty.{Ty}
use Rattle.chc_nums.specs.declared.Ty.TheVariants as ty
use Rattle.chc_nums.specs.declared.Num.TheVariants as num
use Rattle.chc_nums.proofs.Quotients.{quotient-small}
use Rattle.sol_core.specs.Wrapping.{modulo, wrapped, wrapped_by}
use Rattle.sol_eval.specs.Sized.{type_sized}
use Rattle.sol_eval.proofs.Sizes.{type_size}

-- the low bits of a complement are the complement of the low bits
complement : (a j k : ℕ) → a < 2 ^ (j + k) → (2 ^ (j + k) - suc a) % 2 ^ k ≡ 2 ^ k - 1 - a % 2 ^ k
complement a j k h =
    let q : ℕ = a / 2 ^ k in
    let r : ℕ = a % 2 ^ k in
    let d : ℕ = 2 ^ j - suc q in
    let split : q * 2 ^ k + r ≡ a = shr_split a k in
    let whole : 2 ^ (j + k) ≡ 2 ^ j * 2 ^ k = pow-add 2 j k in
    let some : 0 < 2 ^ k = pow_pos k in
    let low : r < 2 ^ k = mod-lt a some in
    let inside : a < 2 ^ j * 2 ^ k = rw whole at h in
    let below : q < 2 ^ j = (div-lt_iff_lt-mul some).1 inside in
    let parts : 2 ^ j ≡ (d + 1) + q = omega arith in
    let all : 2 ^ j * 2 ^ k ≡ ((d + 1) + q) * 2 ^ k = ap (λ (n : ℕ). n * 2 ^ k) parts in
    let product : ((d + 1) + q) * 2 ^ k ≡ (d + 1) * 2 ^ k + q * 2 ^ k = add-mul (d + 1) q (2 ^ k) in
    let more : (d + 1) * 2 ^ k ≡ d * 2 ^ k + 1 * 2 ^ k = add-mul d 1 (2 ^ k) in
    let rest : 2 ^ (j + k) - suc a ≡ d * 2 ^ k + (2 ^ k - 1 - r) = omega arith in
    let under : 2 ^ k - 1 - r < 2 ^ k = omega arith in
    rw rest (mod-mul-add d (2 ^ k) (2 ^ k - 1 - r) under)

complement-128 : (a k : ℕ) → k ≤ 128 → a < 2 ^ 128 → (2 ^ 128 - suc a) % 2 ^ k ≡ 2 ^ k - 1 - a % 2 ^ k
complement-128 a k h below =
    let p : (128 - k) + k ≡ 128 = omega arith in
    let e : 2 ^ ((128 - k) + k) ≡ 2 ^ 128 = ap (λ (n : ℕ). 2 ^ n) p in
    let inside : a < 2 ^ ((128 - k) + k) = omega arith in
    let s : (2 ^ ((128 - k) + k) - suc a) % 2 ^ k ≡ 2 ^ k - 1 - a % 2 ^ k = complement a (128 - k) k inside in
    ap (λ (n : ℕ). (n - suc a) % 2 ^ k) (sym e) ∙ s

mod-128 : (n k : ℕ) → k ≤ 128 → n % 2 ^ 128 % 2 ^ k ≡ n % 2 ^ k
mod-128 n k h =
    let p : (128 - k) + k ≡ 128 = omega arith in
    ap (λ (m : ℕ). n % 2 ^ m % 2 ^ k) (sym p) ∙ mod-mod-pow n (128 - k) k

-- the low bits of a number of 128 bits, read with a sign
modulo-cast : (k n : ℕ) → k ≤ 128 → n < 2 ^ 128 → modulo (cast_signed w128 n) (2 ^ k) ≡ n % 2 ^ k
modulo-cast k n h below = elim (cases_lt n (2 ^ 127)) [
  | inl small ↦ ap (λ (z : ℤ). modulo z (2 ^ k)) (to_z_pos w128 n small)
  | inr large ↦
      let c : ℕ = 2 ^ 128 - suc n in
      let back : 2 ^ 128 - suc c ≡ n = omega arith in
      let e : cast_signed w128 (2 ^ 128 - suc c) ≡ negsuc c = to_z-neg w128 c (omega arith) in
      let f : cast_signed w128 n ≡ negsuc c = ap (cast_signed w128) (sym back) ∙ e in
      let low : c % 2 ^ k ≡ 2 ^ k - 1 - n % 2 ^ k = complement-128 n k h below in
      let some : n % 2 ^ k < 2 ^ k = mod-lt n (pow_pos k) in
      let rest : 2 ^ k - 1 - c % 2 ^ k ≡ n % 2 ^ k = omega arith in
      ap (λ (z : ℤ). modulo z (2 ^ k)) f ∙ rest
]

modulo-wrap : (k : ℕ) (z : ℤ) → k ≤ 128 → modulo (int_wrap w128 z) (2 ^ k) ≡ modulo z (2 ^ k)
unfolding int_wrap
modulo-wrap k (pos n) h = modulo-cast k (n % 2 ^ 128) h (mod-lt n (pow_pos 128)) ∙ mod-128 n k h
modulo-wrap k (negsuc n) h =
    let below : n % 2 ^ 128 < 2 ^ 128 = mod-lt n (pow_pos 128) in
    let less : 2 ^ 128 - 1 - n % 2 ^ 128 ≡ 2 ^ 128 - suc (n % 2 ^ 128) = omega arith in
    let inside : 2 ^ 128 - 1 - n % 2 ^ 128 < 2 ^ 128 = omega arith in
    modulo-cast k (2 ^ 128 - 1 - n % 2 ^ 128) h inside ∙ ap (λ (m : ℕ). m % 2 ^ k) less ∙ complement-128 (n % 2 ^ 128) k h below ∙ ap (λ (r : ℕ). 2 ^ k - 1 - r) (mod-128 n k h)

pub wrapped-wrap : (t : Ty) (z : ℤ) → type_sized t ≡ true → wrapped t (int_wrap w128 z) ≡ wrapped t z
wrapped-wrap ty.Bool z h = ap pos (modulo-wrap 1 z (omega arith))
wrapped-wrap (ty.Uint s) z h = let b = type_size (ty.Uint s) h in ap pos (modulo-wrap (8 * s) z (omega arith))
wrapped-wrap (ty.Int s) z h =
    let b = type_size (ty.Int s) h in
    let half : ℤ = pos (2 ^ (8 * s - 1)) in
    let within : 8 * s ≤ 128 = omega arith in
    let e : modulo (int_wrap w128 z +ℤ half) (2 ^ (8 * s)) ≡ modulo (z +ℤ half) (2 ^ (8 * s)) =
    sym (modulo-wrap (8 * s) (int_wrap w128 z +ℤ half) within) ∙ ap (λ (y : ℤ). modulo y (2 ^ (8 * s))) (int_wrap-add_left w128 z half) ∙ modulo-wrap (8 * s) (z +ℤ half) within in
    ap (λ (n : ℕ). pos n -ℤ half) e
wrapped-wrap ty.Addr z h = ap pos (modulo-wrap 96 z (omega arith))

cast-wrap : (z : ℤ) → neg_ℤ (pos (2 ^ 127)) ≤ℤ z → z ≤ℤ pos (2 ^ 127) → cast_signed w128 (cast_unsigned w128 z) ≡ int_wrap w128 z
unfolding int_wrap
cast-wrap (pos n) p q = let below : n < 2 ^ 128 = omega (arith, ints) in ap (cast_signed w128) (sym (mod-eq_of_lt below))
cast-wrap (negsuc n) p q =
    let below : n < 2 ^ 128 = omega (arith, ints) in
    let same : n % 2 ^ 128 ≡ n = mod-eq_of_lt below in
    let e : 2 ^ 128 - suc n ≡ 2 ^ 128 - 1 - n % 2 ^ 128 = omega arith in
    ap (cast_signed w128) e

-- a quotient of 128 bits wraps as what it is
pub quotient-wrap : (x y : ℤ) → FitsSigned w128 x → int_wrapping_div w128 x y ≡ int_wrap w128 (int_div x y)
quotient-wrap x y f =
    let q = quotient-small x y (2 ^ 127) (omega (arith, ints)) (omega (arith, ints)) in
    cast-wrap (int_div x y) q.0 q.1

-- a number whose bits are not 0 is not 0
pub by-nonzero : (t : Ty) (b z : ℤ) → (cast_unsigned w128 b ≡ 0 → ⊥) → wrapped_by t b z ≡ num.Value (wrapped t z)
by-nonzero t (pos zero) z h = absurd (h refl)
by-nonzero t (pos (suc n)) z h = let e : int_eq (pos (suc n)) (pos 0) ≡ false = grind (arith, ints) in rw e refl
by-nonzero t (negsuc n) z h = refl
