-- Numbers of literals among those of 128 bits.
use Rattle.std.proofs.Common.{◌≡◌, ◌^◌, pos, Bool, true, false, Some, None, refl, sym, ◌⊎◌, inl, inr, arith}
use Rattle.std.specs.Prelude.{nat_lt, unsigned_abs, FitsSigned, int_div, int_rem, if◌then◌else◌}
use Rattle.std.specs.Ordering.{int_eq}
use Rattle.std.specs.Int.{w128}
use Rattle.std.proofs.lemmas.Bool.Decides.{nat_tests}
use Rattle.std.proofs.lemmas.Int.{fits_signed_from_abs}
use lib.IntN.{ℤ}
use Rattle.chc_nums.specs.Values.{with_value}
use Rattle.chc_nums.specs.Wide.{in_128, fits_128, divided}
use Rattle.chc_nums.proofs.Fits.{in_128-cases, fits_not}
use Rattle.chc_nums.proofs.Quotients.{divided-rest}
use Rattle.sol_judged.specs.LiteralNumbers.{whole, exact_quotient, exact_remainder}

pub cases : (b : Bool) → (b ≡ true) ⊎ (b ≡ false)
cases true = inl refl
cases false = inr refl

-- what doesn't have 128 bits is too large
whole-wide : (z : ℤ) → ¬ (FitsSigned w128 z) → whole z ≡ None
unfolding whole
whole-wide z h =
    elim (cases (nat_lt (unsigned_abs z) (2 ^ 127))) [
      | inl t ↦ absurd (h (fits_signed_from_abs w128 z (grind (arith, nat_tests))))
      | inr f ↦ rw f refl
    ]

pub whole-in : (z : ℤ) → with_value (in_128 z) whole ≡ whole z
whole-in z =
    elim (in_128-cases z) [
      | inl h ↦ rw h.0 refl
      | inr h ↦ rw h.0 (sym (whole-wide z h.1))
    ]

pub ruleset wholes = (whole-in)

-- ---- quotients

pub quotient-none : (a b : ℤ) → divided a b (int_rem a b) ≡ None → exact_quotient a b ≡ None
unfolding divided exact_quotient
quotient-none a b e =
    elim (cases (int_eq b (pos 0))) [
      | inl t ↦ rw t refl
      | inr n ↦ elim (cases (fits_128 (int_div a b))) [
        | inl t ↦ (let i : Some (int_rem a b) ≡ None = rw (n, t) at e in absurd (cc))
        | inr f ↦ (let w : whole (int_div a b) ≡ None = whole-wide (int_div a b) (λ x. fits_not (int_div a b) f x) in
            elim (cases (int_eq (int_rem a b) (pos 0))) [
              | inl t ↦ rw (n, t) w
              | inr o ↦ rw (n, o) refl
            ])
      ]
    ]

pub quotient-some : (a b r : ℤ) → divided a b (int_rem a b) ≡ Some r → (if int_eq r (pos 0) then with_value (divided a b (int_div a b)) whole else None) ≡ exact_quotient a b
unfolding divided exact_quotient
quotient-some a b r e =
    elim (cases (int_eq b (pos 0))) [
      | inl t ↦ (let i : None ≡ Some r = rw t at e in absurd (cc))
      | inr n ↦ elim (cases (fits_128 (int_div a b))) [
        | inr f ↦ (let i : None ≡ Some r = rw (n, f) at e in absurd (cc))
        | inl t ↦ (let i : Some (int_rem a b) ≡ Some r = rw (n, t) at e in let j : r ≡ int_rem a b = cc in rw (j, n, t) refl)
      ]
    ]

pub remainder-some : (a b r : ℤ) → divided a b (int_rem a b) ≡ Some r → whole r ≡ exact_remainder a b
unfolding divided exact_remainder
remainder-some a b r e =
    elim (cases (int_eq b (pos 0))) [
      | inl t ↦ (let i : None ≡ Some r = rw t at e in absurd (cc))
      | inr n ↦ elim (cases (fits_128 (int_div a b))) [
        | inr f ↦ (let i : None ≡ Some r = rw (n, f) at e in absurd (cc))
        | inl t ↦ (let i : Some (int_rem a b) ≡ Some r = rw (n, t) at e in let j : r ≡ int_rem a b = cc in rw (j, n) refl)
      ]
    ]

pub remainder-zero : (a b : ℤ) → int_eq b (pos 0) ≡ true → exact_remainder a b ≡ None
unfolding exact_remainder
remainder-zero a b t = rw t refl

pub remainder-rest : (a b : ℤ) → FitsSigned w128 a → divided a b (int_rem a b) ≡ None → int_eq b (pos 0) ≡ false → exact_remainder a b ≡ whole (pos 0)
unfolding exact_remainder
remainder-rest a b f e n = let r = divided-rest a b (int_rem a b) f e n in rw (n, r) refl

pub ruleset quotients = (quotient-none, quotient-some, remainder-some, remainder-zero, remainder-rest)
